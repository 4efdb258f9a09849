use Rattle.stab_sampler.proofs.Names.{refl}
use Rattle.stab_sampler.proofs.GoLemmas.{go-detector}
use Rattle.stab_sampler.proofs.step.propagate_detector.Goals as goal

pub returns : goal.returns
returns g c = record {
  goes = λ recorded_pivots coins may.
      go-detector c.args.lookbacks.now c.args.lanes.now _ c.parity-flips.result c.as_slice.result.now may c.as_slice.ensures.value c.parity-flips.ensures.value refl c.in_ok-push.ensures.items;
}
