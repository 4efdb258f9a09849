use Rattle.stab_search.proofs.Names.{◌≡◌, ◌<◌, ◌∙◌, ℕ, List, length, ap, subst, slice_index, row, AreRowsOf, HasRow}
use Rattle.stab_search.proofs.DistinctLemmas.{distinct-enough}
use Rattle.stab_search.proofs.EnoughLemmas.{enough-again}
use Rattle.stab_search.proofs.enough_errors.put_in_order.Goals as goal

pub returns : goal.returns
returns c = record {
  enough = λ t is.
      let e = c.args.retained.now.errors.table in
      let chosen = c.in_ok-chosen.chosen.rows.items in
      let positions = c.in_ok-chosen.chosen.numbers.items in
      let found = c.in_ok-numbers.numbers.items in
      let rows : AreRowsOf e.rows chosen positions = subst (λ (xs : List (List ℕ)). AreRowsOf xs chosen positions) c.rows.ensures.value c.in_ok-chosen.ensures.rows in
      let all : (r : ℕ) → r < length e.rows → HasRow chosen (row e.rows r) =
      subst (λ (xs : List (List ℕ)). (r : ℕ) → r < length xs → HasRow chosen (row xs r)) c.rows.ensures.value c.in_ok-chosen.ensures.all in
      let each : (k : ℕ) → k < length positions → slice_index found k ≡ slice_index c.args.retained.now.numbers.items (slice_index positions k) =
      subst (λ (ns : List ℕ). (k : ℕ) → k < length positions → slice_index found k ≡ slice_index ns (slice_index positions k)) c.as_slice-2.ensures.value
      (subst (λ (xs : List ℕ). (k : ℕ) → k < length xs → slice_index found k ≡ slice_index c.as_slice-2.result.now (slice_index xs k)) c.as_slice-3.ensures.value
      c.in_ok-numbers.ensures.each) in
      enough-again t e c.begin_unmoved.new.self.table c.args.retained.now.numbers.items positions found is
      (distinct-enough e c.begin_unmoved.new.self.table c.detectors.result chosen (c.begin_unmoved.ensures.table ∙ c.in_ok-errors.ensures.table) c.detectors.ensures.value all positions rows)
      (c.in_ok-numbers.ensures.count ∙ ap length c.as_slice-3.ensures.value) each;
}
