use Rattle.stab_search.proofs.Names.{◌≡◌, ◌≤◌, ◌<◌, inl, inr, subst, sym, arith, true, length, slice_index, has}
use Rattle.stab_search.proofs.ScanLemmas.{left-over, none-left}
use Rattle.stab_search.proofs.candidates.live.Goals as goal

pub loop-r-preserved : goal.loop-r-preserved
loop-r-preserved c = record {
  inside = c.in_ok-take_covering.ensures.inside (length c.args.cover.now) (omega arith) c.loop-r.invariant.inside;
  all = λ e there inside some.
      elim (c.loop-r.invariant.all e there inside some) [
        | inl left ↦ left-over e c.args.rows.now c.loop-r.r-index c.loop-r-test.true left
            (λ same. inr (subst (λ r. has r c.take_covering.new.found.items ≡ true) same
            (c.in_ok-take_covering.ensures.taken (subst (λ r. r < length c.args.cover.now) (sym same) inside)
            (subst (λ r. 1 ≤ slice_index c.args.cover.now r) (sym same) some))))
            (λ later. inl later)
        | inr found ↦ inr (c.in_ok-take_covering.ensures.preserved e found)
      ];
}

pub returns-clause-all : goal.returns-clause-all
returns-clause-all c = λ e there inside some.
    elim (c.loop-r.invariant.all e there inside some) [
      | inl left ↦ none-left e c.args.rows.now c.loop-r.r-index c.loop-r-test.false left
      | inr found ↦ found
    ]
