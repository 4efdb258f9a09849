use Rattle.stab_ways.proofs.Names.{◌≡◌, length, map, take, measured, steps_leave}
use Rattle.stab_ways.proofs.resets.leave_out_measured.Given as goal

abbrev pub invariant-loop-target : goal.invariant-loop-target
invariant-loop-target l = record {
  size : length l.propagation.letters ≡ length l.initial.propagation.letters;
  left : l.propagation ≡ record l.initial.propagation { letters = steps_leave (length l.initial.propagation.letters) (map (measured l.measurement) (take l.target-index l.targets)) l.initial.propagation.letters };
}
