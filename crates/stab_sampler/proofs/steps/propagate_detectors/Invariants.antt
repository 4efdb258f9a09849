use Rattle.stab_sampler.proofs.Names.{map, take, detector, lookbacks_of, GoWithoutCoins}
use Rattle.stab_sampler.proofs.steps.propagate_detectors.Given as goal

abbrev pub invariant-loop-position : goal.invariant-loop-position
invariant-loop-position g l = GoWithoutCoins g.W.Word.at g.W.Word.lanes (map detector (take l.position (lookbacks_of l.detectors))) l.initial.lanes l.lanes
