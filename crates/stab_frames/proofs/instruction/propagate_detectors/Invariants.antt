use Rattle.stab_frames.proofs.Names.{◌≡◌, length, map, take, detector, lookbacks_of, GoesWithoutCoins}
use Rattle.stab_frames.proofs.instruction.propagate_detectors.Given as goal

abbrev pub invariant-loop-position : goal.invariant-loop-position
invariant-loop-position l = record {
  size : length l.propagation.letters ≡ length l.initial.propagation.letters;
  goes : GoesWithoutCoins (length l.initial.propagation.letters) (map detector (take l.position (lookbacks_of l.detectors))) l.initial.propagation l.propagation;
}
