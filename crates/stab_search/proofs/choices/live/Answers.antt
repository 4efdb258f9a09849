use Rattle.stab_search.proofs.Names.{◌≡◌, ◌<◌, inl, inr, subst, sym, true, length, slice_index, has}
use Rattle.stab_search.proofs.ScanLemmas.{left-over, none-left}
use Rattle.stab_search.proofs.choices.live.Goals as goal

pub loop-r-preserved : goal.loop-r-preserved
loop-r-preserved c = record {
  inside = c.in_ok-take_live.ensures.inside c.loop-r.invariant.inside;
  all = λ e there inside some.
      elim (c.loop-r.invariant.all e there inside some) [
        | inl left ↦ left-over e c.args.rows.now c.loop-r.r-index c.loop-r-test.true left
            (λ same. inr (subst (λ r. has r c.take_live.new.found.items ≡ true) same
            (c.in_ok-take_live.ensures.taken (subst (λ r. r < length c.args.weights.now) (sym same) inside)
            (subst (λ r. 0 < slice_index c.args.weights.now r) (sym same) some))))
            (λ later. inl later)
        | inr found ↦ inr (c.in_ok-take_live.ensures.preserved e found)
      ];
}

pub returns-clause-all : goal.returns-clause-all
returns-clause-all c = λ e there inside some.
    elim (c.loop-r.invariant.all e there inside some) [
      | inl left ↦ none-left e c.args.rows.now c.loop-r.r-index c.loop-r-test.false left
      | inr found ↦ found
    ]
