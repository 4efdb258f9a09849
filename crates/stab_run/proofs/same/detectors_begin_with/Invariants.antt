use Rattle.stab_run.proofs.Names.{◌≡◌, take, drop, lookbacks_of}
use Rattle.stab_run.proofs.same.detectors_begin_with.Given as goal

abbrev pub invariant-loop-number : goal.invariant-loop-number
invariant-loop-number l = take l.number (drop l.position (lookbacks_of l.detectors)) ≡ take l.number (lookbacks_of l.others)
