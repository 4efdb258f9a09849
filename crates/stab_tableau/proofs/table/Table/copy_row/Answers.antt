use Rattle.stab_tableau.proofs.Names.{◌∙◌}
use Rattle.stab_tableau.proofs.PairedRowsLemmas.{seen-few, seen-position, seen-length, seen-read}
use Rattle.stab_tableau.proofs.table.Table.copy_row.Goals as goal

pub position-requires : goal.position-requires
position-requires c = record { few = seen-few c.self.inside.rows c.self.invariant.0 c.args.self.now c.self.view_is c.args.qubit c.requires.in_range }

pub copy_row-requires-clause-in_range : goal.copy_row-requires-clause-in_range
copy_row-requires-clause-in_range c =
    seen-position c.self.inside.rows c.self.invariant.0 c.args.self.now c.self.view_is c.args.row c.args.qubit c.position.result c.requires.in_range c.position.ensures.value

pub copy_row-requires-clause-same_length : goal.copy_row-requires-clause-same_length
copy_row-requires-clause-same_length c = c.requires.same_length ∙ seen-length c.self.inside.rows c.self.invariant.0 c.args.self.now c.self.view_is

pub returns : goal.returns
returns c =
    record { value = c.copy_row.ensures.value ∙ seen-read c.self.inside.rows c.self.invariant.0 c.args.self.now c.self.view_is c.args.row c.args.qubit c.position.result c.requires.in_range c.position.ensures.value }
