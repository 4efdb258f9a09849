use Rattle.stab_recording.proofs.Names.{◌≡◌, ◌+◌, ◌++◌, length, take, drop, map, reverse, vec_capacity, moved_checkpoint}
use Rattle.stab_recording.proofs.checkpoint.take_moved.Given as goal

abbrev pub invariant-loop-meeting : goal.invariant-loop-meeting
invariant-loop-meeting l = record {
  left : take l.position l.checkpoints.items ≡ take l.position l.initial.checkpoints.items;
  taken : l.taken.items ++ reverse (map (moved_checkpoint l.meeting) (drop l.position l.checkpoints.items))
      ≡ l.initial.taken.items ++ reverse (map (moved_checkpoint l.meeting) (drop l.position l.initial.checkpoints.items));
  capacity : vec_capacity l.checkpoints ≡ vec_capacity l.initial.checkpoints;
  room : vec_capacity l.taken ≡ vec_capacity l.initial.taken;
  together : length l.taken.items + length l.checkpoints.items ≡ length l.initial.taken.items + length l.initial.checkpoints.items;
}

abbrev pub decreases-loop-meeting : goal.decreases-loop-meeting
decreases-loop-meeting l = length l.checkpoints.items
