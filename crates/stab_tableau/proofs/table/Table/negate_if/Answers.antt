use Rattle.stab_tableau.proofs.Names.{ap, with_sign}
use Rattle.stab_tableau.proofs.PairedRowsLemmas.{preserved-paired, seen-few, seen-position, seen-read, seen-written}
use Rattle.stab_tableau.proofs.SupportLemmas.{conjugated-covered}
use Rattle.stab_tableau.proofs.table.Table.negate_if.Goals as goal

pub position-requires : goal.position-requires
position-requires c = record { few = seen-few c.self.inside.rows c.self.invariant.0 c.args.self.now c.self.view_is c.args.qubit c.requires.in_range }

pub negate_if-requires : goal.negate_if-requires
negate_if-requires c =
    record { in_range = seen-position c.self.inside.rows c.self.invariant.0 c.args.self.now c.self.view_is c.args.row c.args.qubit c.position.result c.requires.in_range c.position.ensures.value }

pub returns : goal.returns
returns c =
    record {
      value = seen-written c.self.inside.rows c.self.invariant.0 c.args.self.now c.self.view_is c.args.row c.args.qubit c.position.result c.requires.in_range c.position.ensures.value _ _ _ c.negate_if.ensures.value
          (ap (with_sign c.args.bit) (seen-read c.self.inside.rows c.self.invariant.0 c.args.self.now c.self.view_is c.args.row c.args.qubit c.position.result c.requires.in_range c.position.ensures.value));
    }

pub invariant_of-self : goal.invariant_of-self
invariant_of-self c = (
  preserved-paired c.self.inside.rows c.negate_if.new.self c.position.result _ c.self.invariant.0 c.negate_if.ensures.value,
  conjugated-covered c.self.inside.supports c.self.inside.rows c.negate_if.new.self c.position.result c.args.bit (seen-position c.self.inside.rows c.self.invariant.0 c.args.self.now c.self.view_is c.args.row c.args.qubit c.position.result c.requires.in_range c.position.ensures.value) c.negate_if.ensures.value c.self.invariant.1,
)
