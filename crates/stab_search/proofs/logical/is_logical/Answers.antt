use Rattle.stab_search.proofs.Names.{◌≢◌, ◌∙◌, ap, sym, subst, arith, length, leb-true, eqb-false, IsAscending, odd}
use Rattle.stab_search.proofs.LogicalLemmas.{flipped-logical}
use Rattle.stab_search.proofs.logical.is_logical.Goals as goal

pub returns : goal.returns
returns c = record {
  yes = λ yes.
      let next = c.as_slice-flips.result.now in
      let some : length next ≢ 0 = eqb-false (length next) 0 (sym c.if-is_empty.ensures) in
      let le = leb-true _ _ yes in
      flipped-logical (record { detectors = c.args.detectors; rows = c.args.rows.now }) c.args.errors.now next
      (subst IsAscending (sym c.as_slice-flips.ensures.value) (rw c.in-Some.is at c.in_ok-flipped_by.ensures.ascending))
      (λ i. ap (odd i) c.as_slice-flips.ensures.value ∙ (rw c.in-Some.is at c.in_ok-flipped_by.ensures.odd) i)
      (rw c.in-Some.is at c.in_ok-flipped_by.ensures.inside)
      (omega (arith, some)) (omega (arith, le));
}
