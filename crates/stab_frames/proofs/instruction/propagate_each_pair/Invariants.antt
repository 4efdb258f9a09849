use Rattle.stab_frames.proofs.Names.{◌≡◌, length, map, take, controlled_step, GoesWithoutCoins}
use Rattle.stab_frames.proofs.instruction.propagate_each_pair.Given as goal

abbrev pub invariant-loop-pair : goal.invariant-loop-pair
invariant-loop-pair l = record {
  size : length l.propagation.letters ≡ length l.initial.propagation.letters;
  goes : GoesWithoutCoins (length l.initial.propagation.letters) (map (controlled_step l.axis) (take l.pair-index l.pairs)) l.initial.propagation l.propagation;
}
