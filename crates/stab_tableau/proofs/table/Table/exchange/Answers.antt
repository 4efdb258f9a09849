use Rattle.stab_tableau.proofs.Names.{◌∙◌, sym, refl, subst, row_at, with_row, swapped_rows, Covers}
use Rattle.stab_tableau.proofs.PairedRowsLemmas.{preserved-paired, seen-few, seen-position, seen-distinct, seen-exchanged}
use Rattle.stab_tableau.proofs.SupportLemmas.{row-group}
use Rattle.stab_tableau.proofs.table.Table.exchange.Goals as goal

pub position-requires : goal.position-requires
position-requires c = record { few = seen-few c.self.inside.rows c.self.invariant.0 c.args.self.now c.self.view_is c.args.qubit c.requires.in_range }

pub position-requires-2 : goal.position-requires-2
position-requires-2 c = record { few = seen-few c.self.inside.rows c.self.invariant.0 c.args.self.now c.self.view_is c.args.other_qubit c.requires.other_in_range }

pub swap-requires-clause-a_in_range : goal.swap-requires-clause-a_in_range
swap-requires-clause-a_in_range c =
    seen-position c.self.inside.rows c.self.invariant.0 c.args.self.now c.self.view_is c.args.row c.args.qubit c.position.result c.requires.in_range c.position.ensures.value

pub swap-requires-clause-b_in_range : goal.swap-requires-clause-b_in_range
swap-requires-clause-b_in_range c =
    seen-position c.self.inside.rows c.self.invariant.0 c.args.self.now c.self.view_is c.args.other c.args.other_qubit c.position-2.result c.requires.other_in_range c.position-2.ensures.value

pub swap-requires-clause-distinct : goal.swap-requires-clause-distinct
swap-requires-clause-distinct c =
    seen-distinct c.self.inside.rows c.self.invariant.0 c.args.self.now c.self.view_is c.args.row c.args.other c.args.qubit c.args.other_qubit _ _ c.position.ensures.value c.position-2.ensures.value c.requires.distinct

pub returns : goal.returns
returns c =
    record {
      value = seen-exchanged c.self.inside.rows c.self.invariant.0 c.args.self.now c.self.view_is c.args.row c.args.other c.args.qubit c.args.other_qubit _ _ c.requires.in_range c.requires.other_in_range
          c.position.ensures.value c.position-2.ensures.value _ c.swap.ensures.value;
    }

pub position-requires-3 : goal.position-requires-3
position-requires-3 c = record { few = seen-few c.self.inside.rows c.self.invariant.0 c.args.self.now c.self.view_is c.args.qubit c.requires.in_range }

pub position-requires-4 : goal.position-requires-4
position-requires-4 c = record { few = seen-few c.self.inside.rows c.self.invariant.0 c.args.self.now c.self.view_is c.args.other_qubit c.requires.other_in_range }

pub swap-requires-2-clause-a_in_range : goal.swap-requires-2-clause-a_in_range
swap-requires-2-clause-a_in_range c = row-group c.self.inside.supports c.self.inside.rows c.position-3.result c.self.invariant.1 (seen-position c.self.inside.rows c.self.invariant.0 c.args.self.now c.self.view_is c.args.row c.args.qubit c.position-3.result c.requires.in_range c.position-3.ensures.value)

pub swap-requires-2-clause-b_in_range : goal.swap-requires-2-clause-b_in_range
swap-requires-2-clause-b_in_range c = row-group c.self.inside.supports c.self.inside.rows c.position-4.result c.self.invariant.1 (seen-position c.self.inside.rows c.self.invariant.0 c.args.self.now c.self.view_is c.args.other c.args.other_qubit c.position-4.result c.requires.other_in_range c.position-4.ensures.value)

pub invariant_of-self : goal.invariant_of-self
invariant_of-self c =
    let e = c.position.ensures.value ∙ sym c.position-3.ensures.value in
    let f = c.position-2.ensures.value ∙ sym c.position-4.ensures.value in
    let made = c.swap.ensures.value ∙ (λ i. swapped_rows c.self.inside.rows (e i) (f i)) in
    let r = c.self.inside.rows in (
      preserved-paired (with_row r c.position-3.result (row_at r c.position-4.result)) c.swap.new.self c.position-4.result (row_at r c.position-3.result)
          (preserved-paired r (with_row r c.position-3.result (row_at r c.position-4.result)) c.position-3.result (row_at r c.position-4.result) c.self.invariant.0 refl) made,
      subst (Covers c.swap-2.new.self) (sym made)
          (c.swap-2.ensures.covers c.self.inside.rows
          (seen-position c.self.inside.rows c.self.invariant.0 c.args.self.now c.self.view_is c.args.row c.args.qubit c.position-3.result c.requires.in_range c.position-3.ensures.value)
          (seen-position c.self.inside.rows c.self.invariant.0 c.args.self.now c.self.view_is c.args.other c.args.other_qubit c.position-4.result c.requires.other_in_range c.position-4.ensures.value)
          c.self.invariant.1),
    )
