use Rattle.stab_tableau.proofs.Names.{◌∙◌, sym, subst, anticommute, product, OthersStay}
use Rattle.stab_tableau.proofs.PairedRowsLemmas.{preserved-paired, seen-few, seen-position, seen-read, seen-written, seen-distinct}
use Rattle.stab_tableau.proofs.SupportLemmas.{row-group, made-others-stay}
use Rattle.stab_tableau.proofs.table.Table.multiply.Goals as goal

pub position-requires : goal.position-requires
position-requires c = record { few = seen-few c.self.inside.rows c.self.invariant.0 c.args.self.now c.self.view_is c.args.qubit c.requires.in_range }

pub position-requires-2 : goal.position-requires-2
position-requires-2 c = record { few = seen-few c.self.inside.rows c.self.invariant.0 c.args.self.now c.self.view_is c.args.other_qubit c.requires.other_in_range }

pub multiply-requires-clause-a_in_range : goal.multiply-requires-clause-a_in_range
multiply-requires-clause-a_in_range c =
    seen-position c.self.inside.rows c.self.invariant.0 c.args.self.now c.self.view_is c.args.row c.args.qubit c.position.result c.requires.in_range c.position.ensures.value

pub multiply-requires-clause-b_in_range : goal.multiply-requires-clause-b_in_range
multiply-requires-clause-b_in_range c =
    seen-position c.self.inside.rows c.self.invariant.0 c.args.self.now c.self.view_is c.args.other c.args.other_qubit c.position-2.result c.requires.other_in_range c.position-2.ensures.value

pub multiply-requires-clause-distinct : goal.multiply-requires-clause-distinct
multiply-requires-clause-distinct c =
    seen-distinct c.self.inside.rows c.self.invariant.0 c.args.self.now c.self.view_is c.args.row c.args.other c.args.qubit c.args.other_qubit _ _ c.position.ensures.value c.position-2.ensures.value c.requires.distinct

pub multiply-requires-clause-commuting : goal.multiply-requires-clause-commuting
multiply-requires-clause-commuting c =
    (λ i. anticommute
    (seen-read c.self.inside.rows c.self.invariant.0 c.args.self.now c.self.view_is c.args.row c.args.qubit c.position.result c.requires.in_range c.position.ensures.value i)
    (seen-read c.self.inside.rows c.self.invariant.0 c.args.self.now c.self.view_is c.args.other c.args.other_qubit c.position-2.result c.requires.other_in_range c.position-2.ensures.value i))
    ∙ c.requires.commuting

pub returns : goal.returns
returns c =
    record {
      value = seen-written c.self.inside.rows c.self.invariant.0 c.args.self.now c.self.view_is c.args.row c.args.qubit c.position.result c.requires.in_range c.position.ensures.value _ _ _ c.multiply.ensures.value
          (λ i. product
          (seen-read c.self.inside.rows c.self.invariant.0 c.args.self.now c.self.view_is c.args.row c.args.qubit c.position.result c.requires.in_range c.position.ensures.value i)
          (seen-read c.self.inside.rows c.self.invariant.0 c.args.self.now c.self.view_is c.args.other c.args.other_qubit c.position-2.result c.requires.other_in_range c.position-2.ensures.value i));
    }

pub position-requires-3 : goal.position-requires-3
position-requires-3 c = record { few = seen-few c.self.inside.rows c.self.invariant.0 c.args.self.now c.self.view_is c.args.qubit c.requires.in_range }

pub forget-requires : goal.forget-requires
forget-requires c = record { in_range = row-group c.self.inside.supports c.self.inside.rows c.position-3.result c.self.invariant.1 (seen-position c.self.inside.rows c.self.invariant.0 c.args.self.now c.self.view_is c.args.row c.args.qubit c.position-3.result c.requires.in_range c.position-3.ensures.value) }

pub invariant_of-self : goal.invariant_of-self
invariant_of-self c = (
  preserved-paired c.self.inside.rows c.multiply.new.self c.position.result _ c.self.invariant.0 c.multiply.ensures.value,
  c.forget.ensures.covers c.self.inside.rows c.multiply.new.self c.self.invariant.1
      (subst (λ k. OthersStay k c.self.inside.rows c.multiply.new.self) (c.position.ensures.value ∙ sym c.position-3.ensures.value)
      (made-others-stay c.self.inside.rows c.multiply.new.self c.position.result _ c.multiply.ensures.value)),
)
