use Rattle.stab_tableau.proofs.Names.{◌∙◌, ap, anticommute, product}
use Rattle.stab_tableau.proofs.PairedRowsLemmas.{seen-few, seen-position, seen-length, seen-read}
use Rattle.stab_tableau.proofs.table.Table.multiply_into.Goals as goal

pub position-requires : goal.position-requires
position-requires c = record { few = seen-few c.self.inside.rows c.self.invariant.0 c.args.self.now c.self.view_is c.args.qubit c.requires.in_range }

pub multiply_into-requires-clause-in_range : goal.multiply_into-requires-clause-in_range
multiply_into-requires-clause-in_range c =
    seen-position c.self.inside.rows c.self.invariant.0 c.args.self.now c.self.view_is c.args.row c.args.qubit c.position.result c.requires.in_range c.position.ensures.value

pub multiply_into-requires-clause-same_length : goal.multiply_into-requires-clause-same_length
multiply_into-requires-clause-same_length c = c.requires.same_length ∙ seen-length c.self.inside.rows c.self.invariant.0 c.args.self.now c.self.view_is

pub multiply_into-requires-clause-commuting : goal.multiply_into-requires-clause-commuting
multiply_into-requires-clause-commuting c =
    ap (anticommute c.args.out.now) (seen-read c.self.inside.rows c.self.invariant.0 c.args.self.now c.self.view_is c.args.row c.args.qubit c.position.result c.requires.in_range c.position.ensures.value)
    ∙ c.requires.commuting

pub returns : goal.returns
returns c =
    record {
      value = c.multiply_into.ensures.value
          ∙ ap (product c.args.out.now) (seen-read c.self.inside.rows c.self.invariant.0 c.args.self.now c.self.view_is c.args.row c.args.qubit c.position.result c.requires.in_range c.position.ensures.value);
    }
