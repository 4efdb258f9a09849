use Rattle.stab_tableau.proofs.Names.{◌∙◌, ap, Signed}
use Rattle.stab_tableau.proofs.PairedRowsLemmas.{seen-few, seen-position, seen-read}
use Rattle.stab_tableau.proofs.table.Table.is_negative.Goals as goal

pub position-requires : goal.position-requires
position-requires c = record { few = seen-few c.self.inside.rows c.self.invariant.0 c.args.self.now c.self.view_is c.args.qubit c.requires.in_range }

pub is_negative-requires : goal.is_negative-requires
is_negative-requires c =
    record { in_range = seen-position c.self.inside.rows c.self.invariant.0 c.args.self.now c.self.view_is c.args.row c.args.qubit c.position.result c.requires.in_range c.position.ensures.value }

pub returns : goal.returns
returns c =
    record {
      value = c.is_negative.ensures.value
          ∙ ap (λ (p : Signed). p.negative) (seen-read c.self.inside.rows c.self.invariant.0 c.args.self.now c.self.view_is c.args.row c.args.qubit c.position.result c.requires.in_range c.position.ensures.value);
    }
