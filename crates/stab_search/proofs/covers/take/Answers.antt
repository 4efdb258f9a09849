use Rattle.stab_search.proofs.Names.{◌≡◌, ◌≤◌, ◌<◌, inl, inr, subst, sym, arith, ◌∙◌, true, length, slice_index, has}
use Rattle.stab_search.proofs.ScanLemmas.{take-left, none-left, is-other}
use Rattle.stab_search.proofs.covers.take.Goals as goal

pub loop-r-preserved : goal.loop-r-preserved
loop-r-preserved c = record {
  inside = λ n within each. c.in_ok-take_covering.ensures.inside n (omega (arith, within, c.loop-r.invariant.length)) (c.loop-r.invariant.inside n within each);
  preserved = λ e there. c.in_ok-take_covering.ensures.preserved e (c.loop-r.invariant.preserved e there);
  taken = λ e inside many there.
      take-left e c.args.rows.now c.loop-r.r-index c.loop-r.found.items c.take_covering.new.found.items c.args.cover.now c.loop-r.cover c.set_zero.new.cover
      c.loop-r-test.true (c.loop-r.invariant.taken e inside many there) (c.in_ok-take_covering.ensures.preserved e)
      (λ same still. subst (λ r. has r c.take_covering.new.found.items ≡ true) same
      (c.in_ok-take_covering.ensures.taken
      (subst (λ r. r < length c.loop-r.cover) (sym same) (omega (arith, inside, c.loop-r.invariant.length)))
      (subst (λ r. c.args.least ≤ slice_index c.loop-r.cover r) (sym same) (omega (arith, many, still)))))
      (c.set_zero.ensures.others e);
  others = λ e none. c.set_zero.ensures.others e (is-other e c.args.rows.now c.loop-r.r-index c.loop-r-test.true none) ∙ c.loop-r.invariant.others e none;
  length = omega (arith, c.loop-r.invariant.length, c.set_zero.ensures.length);
}

pub returns-clause-taken : goal.returns-clause-taken
returns-clause-taken c = λ e inside many there.
    elim (c.loop-r.invariant.taken e inside many there) [
      | inl found ↦ found
      | inr left ↦ none-left e c.args.rows.now c.loop-r.r-index c.loop-r-test.false left.0
    ]
