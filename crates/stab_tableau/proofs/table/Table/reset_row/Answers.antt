use Rattle.stab_tableau.proofs.Names.{◌∙◌, ap, subst, sym, length, arith, length-set, identity, Rows, string_at, with_row, with_letter, OthersStay}
use Rattle.stab_tableau.proofs.PairedRowsLemmas.{preserved-paired, seen-few, seen-position, seen-length, seen-reset}
use Rattle.stab_tableau.proofs.SupportLemmas.{row-group, again-others-stay}
use Rattle.stab_tableau.proofs.table.Table.reset_row.Goals as goal

pub position-requires : goal.position-requires
position-requires c = record { few = seen-few c.self.inside.rows c.self.invariant.0 c.args.self.now c.self.view_is c.args.qubit c.requires.in_range }

pub clear-requires : goal.clear-requires
clear-requires c =
    record { in_range = seen-position c.self.inside.rows c.self.invariant.0 c.args.self.now c.self.view_is c.args.row c.args.qubit c.position.result c.requires.in_range c.position.ensures.value }

pub position-requires-2 : goal.position-requires-2
position-requires-2 c = record { few = seen-few c.self.inside.rows c.self.invariant.0 c.args.self.now c.self.view_is c.args.qubit c.requires.in_range }

pub set-requires-clause-in_range : goal.set-requires-clause-in_range
set-requires-clause-in_range c =
    let size = ap (λ (r : Rows). length r.rows) c.clear.ensures.value ∙ length-set c.self.inside.rows.rows c.position.result (identity c.self.inside.rows.qubits) in
    let lt = seen-position c.self.inside.rows c.self.invariant.0 c.args.self.now c.self.view_is c.args.row c.args.qubit c.position-2.result c.requires.in_range c.position-2.ensures.value in
    omega arith

pub set-requires-clause-qubit_in_range : goal.set-requires-clause-qubit_in_range
set-requires-clause-qubit_in_range c =
    let size = ap (λ (r : Rows). r.qubits) c.clear.ensures.value in
    let e = seen-length c.self.inside.rows c.self.invariant.0 c.args.self.now c.self.view_is in
    let lt = c.requires.in_range in
    omega arith

pub returns : goal.returns
returns c =
    let same = c.position-2.ensures.value ∙ sym c.position.ensures.value in
    record {
      row = seen-reset c.self.inside.rows c.self.invariant.0 c.args.self.now c.self.view_is c.args.row c.args.qubit c.position.result c.args.letter
          c.requires.in_range c.position.ensures.value c.clear.new.self c.set.new.self c.clear.ensures.value
          (c.set.ensures.value ∙ (λ i. with_row c.clear.new.self (same i) (with_letter c.args.qubit c.args.letter (string_at c.clear.new.self (same i)))));
    }

pub position-requires-3 : goal.position-requires-3
position-requires-3 c = record { few = seen-few c.self.inside.rows c.self.invariant.0 c.args.self.now c.self.view_is c.args.qubit c.requires.in_range }

pub forget-requires : goal.forget-requires
forget-requires c = record { in_range = row-group c.self.inside.supports c.self.inside.rows c.position-3.result c.self.invariant.1 (seen-position c.self.inside.rows c.self.invariant.0 c.args.self.now c.self.view_is c.args.row c.args.qubit c.position-3.result c.requires.in_range c.position-3.ensures.value) }

pub invariant_of-self : goal.invariant_of-self
invariant_of-self c =
    let same = c.position-2.ensures.value ∙ sym c.position.ensures.value in
    let last = c.position.ensures.value ∙ sym c.position-3.ensures.value in
    let again = c.set.ensures.value ∙ (λ i. with_row c.clear.new.self (same i) (with_letter c.args.qubit c.args.letter (string_at c.clear.new.self (same i)))) in (
      preserved-paired c.clear.new.self c.set.new.self c.position.result _
          (preserved-paired c.self.inside.rows c.clear.new.self c.position.result _ c.self.invariant.0 c.clear.ensures.value) again,
      c.forget.ensures.covers c.self.inside.rows c.set.new.self c.self.invariant.1
          (subst (λ k. OthersStay k c.self.inside.rows c.set.new.self) last
          (again-others-stay c.self.inside.rows c.clear.new.self c.set.new.self c.position.result _ _ c.clear.ensures.value again)),
    )
