use Rattle.stab_items.proofs.Names.{◌≡◌, suc, ◌+◌, false, nat_lt, take, subst, arith, list_any}
use Rattle.stab_items.proofs.LookLemmas.{near-next}
use Rattle.stab_items.proofs.window.greatest.Goals as goal

pub loop-number-preserved : goal.loop-number-preserved
loop-number-preserved c =
    let next : suc c.loop-number.number-index ≡ c.loop-number.number-index + 1 = omega arith in
    record {
      more = omega (arith, c.max-greatest.ensures, c.loop-number.invariant.more);
      within = subst (λ j. list_any (nat_lt c.max-greatest.result) (take j c.args.numbers.now) ≡ false) next
          (near-next c.loop-number.number-index c.loop-number.greatest c.max-greatest.result c.args.numbers.now (omega (arith, c.loop-number-test.true)) c.loop-number.invariant.within
          (omega (arith, c.max-greatest.ensures)) (omega (arith, c.max-greatest.ensures)));
    }
