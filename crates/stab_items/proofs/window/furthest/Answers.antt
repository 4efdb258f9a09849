use Rattle.stab_items.proofs.Names.{subst, All, map, arith, take_all, controlled_step, lookbacks, LooksWithin}
use Rattle.stab_items.proofs.LookLemmas.{near-more, within-target}
use Rattle.stab_items.proofs.window.furthest.Goals as goal

pub loop-pair-preserved : goal.loop-pair-preserved
loop-pair-preserved c = record {
  more = omega (arith, c.max-greatest.ensures, c.loop-pair.invariant.more);
  within = λ axis.
      within-target c.loop-pair.greatest c.max-greatest.result (controlled_step axis) c.args.pairs.now c.loop-pair.pair-index c.pair-item.result
      c.loop-pair-test.true c.pair-item.is (omega (arith, c.max-greatest.ensures)) (c.loop-pair.invariant.within axis)
      (near-more c.lookback_of.result c.max-greatest.result (omega (arith, c.max-greatest.ensures)) (lookbacks (controlled_step axis c.pair-item.result))
      (c.lookback_of.ensures.within axis));
}

pub returns-clause-within : goal.returns-clause-within
returns-clause-within c = λ axis.
    subst (λ pairs. All (LooksWithin c.loop-pair.greatest) (map (controlled_step axis) pairs))
    (take_all c.loop-pair.pair-index c.args.pairs.now c.loop-pair-test.false) (c.loop-pair.invariant.within axis)
