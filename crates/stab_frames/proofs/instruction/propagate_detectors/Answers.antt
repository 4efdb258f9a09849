use Rattle.stab_frames.proofs.Names.{◌<◌, ◌∷◌, [], ◌∙◌, ap, subst, length, arith, detector, lookbacks_of, GoesWithoutCoins}
use Rattle.stab_frames.proofs.GoesOverLemmas.{no_coins-further, no_coins-all, no_coins-detector}
use Rattle.stab_frames.proofs.instruction.propagate_detectors.Goals as goal

pub loop-position-preserved : goal.loop-position-preserved
loop-position-preserved c =
    let n = length c.args.propagation.now.letters in
    let m = length c.loop-position.propagation.letters in
    let all = lookbacks_of c.args.detectors in
    let done = c.in_ok-propagate_detector.ensures {u = tt} in
    let lt : c.loop-position.position < length all = omega (arith, c.loop-position-test.true, c.len-position-end.ensures.value) in
    record {
      size = ap length done.letters ∙ c.loop-position.invariant.size;
      goes = no_coins-further n m detector all c.loop-position.position [] c.args.propagation.now c.loop-position.propagation c.propagate_detector.new.propagation lt c.loop-position.invariant.goes c.loop-position.invariant.size
          (subst (λ ks. GoesWithoutCoins m (detector ks ∷ []) c.loop-position.propagation c.propagate_detector.new.propagation) c.get.ensures.value
          (no_coins-detector m c.get.result.now c.loop-position.propagation c.propagate_detector.new.propagation done.value (ap length done.letters)));
    }

pub returns-clause-goes : goal.returns-clause-goes
returns-clause-goes c =
    no_coins-all (length c.args.propagation.now.letters) detector (lookbacks_of c.args.detectors) c.loop-position.position c.args.propagation.now c.loop-position.propagation
    (omega (arith, c.loop-position-test.false, c.loop-position.auto.position-end, c.len-position-end.ensures.value)) c.loop-position.invariant.goes
