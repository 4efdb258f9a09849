use Rattle.stab_frames.proofs.Names.{◌∷◌, [], sym, ◌∙◌, subst, length, arith, controlled_step, StepFits, GoesWithoutCoins}
use Rattle.stab_frames.proofs.GoesOverLemmas.{no_coins-further, no_coins-all, fits-mapped}
use Rattle.stab_frames.proofs.instruction.propagate_each_pair.Goals as goal

pub propagate_controlled_pair-requires : goal.propagate_controlled_pair-requires
propagate_controlled_pair-requires c = record {
  fits = subst (λ p. StepFits (length c.loop-pair.propagation.letters) (controlled_step c.args.axis p)) (sym c.pair-item.is)
      (fits-mapped (length c.args.propagation.now.letters) (length c.loop-pair.propagation.letters) (controlled_step c.args.axis) c.args.pairs.now c.loop-pair.pair-index c.pair-item.result
      c.requires.fits c.loop-pair-test.true c.loop-pair.invariant.size);
}

pub loop-pair-preserved : goal.loop-pair-preserved
loop-pair-preserved c = record {
  size = c.propagate_controlled_pair.ensures.length ∙ c.loop-pair.invariant.size;
  goes = no_coins-further (length c.args.propagation.now.letters) (length c.loop-pair.propagation.letters) (controlled_step c.args.axis) c.args.pairs.now c.loop-pair.pair-index c.pair-item.result
      c.args.propagation.now c.loop-pair.propagation c.propagate_controlled_pair.new.propagation c.loop-pair-test.true c.loop-pair.invariant.goes c.loop-pair.invariant.size
      (subst (λ p. GoesWithoutCoins (length c.loop-pair.propagation.letters) (controlled_step c.args.axis p ∷ []) c.loop-pair.propagation c.propagate_controlled_pair.new.propagation) c.pair-item.is
      c.propagate_controlled_pair.ensures.goes);
}

pub returns-clause-goes : goal.returns-clause-goes
returns-clause-goes c =
    no_coins-all (length c.args.propagation.now.letters) (controlled_step c.args.axis) c.args.pairs.now c.loop-pair.pair-index c.args.propagation.now c.loop-pair.propagation
    (omega (arith, c.loop-pair-test.false, c.loop-pair.auto.pair-index-end)) c.loop-pair.invariant.goes
