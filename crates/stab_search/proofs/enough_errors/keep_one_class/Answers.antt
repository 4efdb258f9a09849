use Rattle.stab_search.proofs.Names.{◌≡◌, ◌<◌, ◌∙◌, ℕ, List, length, sym, subst, row, ErrorTable, AreRowsOf, HaveClasses, Splits, ErrorsAreEnough}
use Rattle.stab_search.proofs.EnoughLemmas.{fewer-enough}
use Rattle.stab_search.proofs.enough_errors.keep_one_class.Goals as goal

pub returns-then-branch : goal.returns-then-branch
returns-then-branch c = record {
  enough = λ t is.
      let chosen = c.in_ok-chosen.chosen.rows.items in
      let classes = c.as_slice.result.now in
      let made : ErrorTable = record { detectors = c.detectors.result; rows = chosen } in
      let same : c.as_slice-then-fewer.result.now ≡ classes = c.as_slice-then-fewer.ensures.value ∙ sym c.as_slice.ensures.value in
      let rows : AreRowsOf t.rows chosen c.in_ok-chosen.chosen.numbers.items =
      c.in_ok-chosen.ensures.rows t.rows is.rows in
      let have : HaveClasses made classes =
      subst (λ (d : ℕ). HaveClasses (record { detectors = d; rows = chosen }) classes) (sym c.detectors.ensures.value) c.in_ok-chosen.ensures.classes in
      let split : (r : ℕ) → r < length c.args.retained.errors.table.rows → Splits made classes (row c.args.retained.errors.table.rows r) =
      λ r lt.
      subst (λ (p : ErrorTable). Splits p classes (row c.args.retained.errors.table.rows r)) c.in_ok-errors.ensures.table
      (subst (λ (xs : List ℕ). Splits c.in_ok-errors.errors.table xs (row c.args.retained.errors.table.rows r)) same (c.in_ok-all_split.ensures.all c.if-branch.true r lt)) in
      subst (λ (p : ErrorTable). ErrorsAreEnough t p c.in_ok-chosen.chosen.numbers.items) (sym c.in_ok-errors.ensures.table)
      (fewer-enough t c.args.retained.errors.table c.args.retained.numbers.items is made classes c.in_ok-chosen.chosen.numbers.items c.detectors.ensures.value rows have split);
}
