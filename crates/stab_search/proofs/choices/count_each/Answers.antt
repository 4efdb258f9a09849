use Rattle.stab_search.proofs.Names.{◌+◌, ◌≤◌, ◌<◌, inl, inr, subst, sym, arith, length, slice_index}
use Rattle.stab_search.proofs.ScanLemmas.{left-over, none-left}
use Rattle.stab_search.proofs.choices.count_each.Goals as goal

pub loop-r-preserved : goal.loop-r-preserved
loop-r-preserved c = record {
  more = λ e there some weighed inside n few least.
      elim (c.loop-r.invariant.more e there some weighed inside n few least) [
        | inl left ↦ left-over e c.args.rows.now c.loop-r.r-index c.loop-r-test.true left
            (λ same. inr (subst (λ r. n + 1 ≤ slice_index c.add_one.new.cover r) same
            (c.add_one.ensures.more (subst (λ r. 0 < slice_index c.args.weights.now r) (sym same) some)
            (subst (λ r. r < length c.args.weights.now) (sym same) weighed)
            (subst (λ r. r < length c.loop-r.cover) (sym same) (omega (arith, inside, c.loop-r.invariant.length)))
            n few
            (subst (λ r. n ≤ slice_index c.loop-r.cover r) (sym same) (omega (arith, least, c.loop-r.invariant.others e))))))
            (λ later. inl later)
        | inr more ↦ inr (omega (arith, more, c.add_one.ensures.others e))
      ];
  others = λ e. omega (arith, c.loop-r.invariant.others e, c.add_one.ensures.others e);
  length = omega (arith, c.loop-r.invariant.length, c.add_one.ensures.length);
}

pub returns-clause-more : goal.returns-clause-more
returns-clause-more c = λ e there some weighed inside n few least.
    elim (c.loop-r.invariant.more e there some weighed inside n few least) [
      | inl left ↦ none-left e c.args.rows.now c.loop-r.r-index c.loop-r-test.false left
      | inr more ↦ more
    ]
