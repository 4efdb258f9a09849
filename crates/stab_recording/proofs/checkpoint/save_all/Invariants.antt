use Rattle.stab_recording.proofs.Names.{◌≡◌, ◌+◌, ◌≤◌, length, reverse, vec_capacity, all_saved}
use Rattle.stab_recording.proofs.checkpoint.save_all.Given as goal

abbrev pub invariant-loop-checkpoint : goal.invariant-loop-checkpoint
invariant-loop-checkpoint l = record {
  value : all_saved l.stride (reverse l.others.items) l.checkpoints.items ≡ all_saved l.stride (reverse l.initial.others.items) l.initial.checkpoints.items;
  capacity : vec_capacity l.checkpoints ≡ vec_capacity l.initial.checkpoints;
  shorter : length l.checkpoints.items + length l.others.items ≤ length l.initial.checkpoints.items + length l.initial.others.items;
}

abbrev pub decreases-loop-checkpoint : goal.decreases-loop-checkpoint
decreases-loop-checkpoint l = length l.others.items
