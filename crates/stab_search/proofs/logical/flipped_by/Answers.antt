use Rattle.stab_search.proofs.Names.{◌≡◌, ◌∙◌, sym, ap, ℕ, List, Bool, ◌<◌, length, take, get_or, odd, row, flipped_by_rows, ◌⊕◌, arith}
use Rattle.stab_parities.proofs.MergeLemmas.{row-in}
use Rattle.stab_search.proofs.ScanLemmas.{each-passed, flips-passed}
use Rattle.stab_search.proofs.logical.flipped_by.Goals as goal

pub each-preserved : goal.each-preserved
each-preserved c =
    let rows = c.args.rows.now in
    let r = get_or c.args.errors.now c.each.r-index 0 in
    let read : c.numbers.result.now ≡ row rows r = c.numbers.ensures.value ∙ c.index-rows-r.is ∙ row-in rows r c.index-rows-r.result (omega (arith, c.if-r-rows.false)) in record {
      inside = each-passed (λ k. k < length rows) c.args.errors.now c.each.r-index c.each-test.true c.each.invariant.inside (omega (arith, c.if-r-rows.false));
      ascending = c.in_ok-merge_into.ensures.ascending;
      flipped = λ i.
          c.in_ok-merge_into.ensures.odd i
          ∙ ap (λ (b : Bool). b ⊕ odd i c.numbers.result.now) (ap (odd i) c.as_slice.ensures.value ∙ c.each.invariant.flipped i)
          ∙ ap (λ (xs : List ℕ). flipped_by_rows rows (take c.each.r-index c.args.errors.now) i ⊕ odd i xs) read
          ∙ sym (flips-passed rows c.args.errors.now c.each.r-index i c.each-test.true);
    }
