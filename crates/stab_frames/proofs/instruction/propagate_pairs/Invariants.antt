use Rattle.stab_frames.proofs.Names.{◌≡◌, ◌≤◌, ◌-◌, length, map, take, controlled_step, GoesWithoutCoins}
use Rattle.stab_frames.proofs.instruction.propagate_pairs.Given as goal

abbrev pub invariant-loop-done : goal.invariant-loop-done
invariant-loop-done l = record {
  within : l.done ≤ length l.pairs;
  size : length l.propagation.letters ≡ length l.initial.propagation.letters;
  goes : GoesWithoutCoins (length l.initial.propagation.letters) (map (controlled_step l.axis) (take l.done l.pairs)) l.initial.propagation l.propagation;
}

abbrev pub decreases-loop-done : goal.decreases-loop-done
decreases-loop-done l = length l.pairs - l.done
