use Rattle.stab_search.proofs.Names.{◌≡◌, inl, inr, subst, sym, arith, ◌∙◌, true, length, odd, row, has, false≢true}
use Rattle.stab_search.proofs.ListLemmas.{by-bit}
use Rattle.stab_search.proofs.ScanLemmas.{left-over, none-left}
use Rattle.stab_search.proofs.covers.covering.Goals as goal

pub loop-d-preserved : goal.loop-d-preserved
loop-d-preserved c = record {
  inside = c.in_ok-take.ensures.inside (length c.args.cover.now) (omega (arith, c.loop-d.invariant.length)) c.loop-d.invariant.inside;
  all = λ e d inside many among error flips.
      elim (c.loop-d.invariant.all e d inside many among error flips) [
        | inl found ↦ inl (c.in_ok-take.ensures.preserved e found)
        | inr left ↦
            by-bit (has e c.flipping.result.now)
            (λ listed. inl (c.in_ok-take.ensures.taken e (omega (arith, inside, c.loop-d.invariant.length)) (omega (arith, many, left.1)) listed))
            (λ not.
            inr (
              left-over d c.args.detectors.now c.loop-d.d-index c.loop-d-test.true left.0
                  (λ same. absurd (false≢true (sym not ∙ c.flipping.ensures.complete e error (subst (λ k. odd k (row c.args.errors.now.table.rows e) ≡ true) (sym same) flips))))
                  (λ later. later),
              c.in_ok-take.ensures.others e not ∙ left.1,
            ))
      ];
  length = omega (arith, c.loop-d.invariant.length, c.in_ok-take.ensures.length);
}

pub returns-clause-all : goal.returns-clause-all
returns-clause-all c = λ e d inside many among error flips.
    elim (c.loop-d.invariant.all e d inside many among error flips) [
      | inl found ↦ found
      | inr left ↦ none-left d c.args.detectors.now c.loop-d.d-index c.loop-d-test.false left.0
    ]
