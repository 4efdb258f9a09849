use Rattle.stab_recording.proofs.Names.{◌≡◌, ◌+◌, ◌-◌, ◌≤◌, length, take, drop, AreInOrder}
use Rattle.stab_recording.proofs.RestPropagatedLemmas.{IsPast}
use Rattle.stab_recording.proofs.rest_of_run.propagate_rest.Given as goal

abbrev pub invariant-loop-checkpoint : goal.invariant-loop-checkpoint
invariant-loop-checkpoint l = record {
  following : l.from ≤ l.at;
  most : l.by_frame ≤ l.initial.by_frame + (l.at - l.from);
  least : l.initial.by_frame + (l.at - l.from) ≤ l.by_frame;
  left : l.cursor.left ≡ drop (l.at - l.from) l.initial.cursor.left;
  order : AreInOrder l.at (l.from + length l.initial.cursor.left) (drop l.checkpoint-index l.checkpoints);
  past : IsPast (length l.initial.propagation.letters) l.strings.strings l.free l.initial.cursor.left l.from (l.at - l.from) (take l.checkpoint-index l.checkpoints) l.conjugated.items l.initial.propagation l.propagation;
}
