use Rattle.stab_session.proofs.Names.{◌≡◌, ◌∷◌, take, checkpoint_steps, Near, last_of}
use Rattle.stab_session.proofs.conjugating.last_near.Given as goal

abbrev pub invariant-loop-checkpoint : goal.invariant-loop-checkpoint
invariant-loop-checkpoint l = record {
  near : Near l.stride (l.step ∷ checkpoint_steps (take l.checkpoint-index l.checkpoints));
  value : last_of l.step (checkpoint_steps (take l.checkpoint-index l.checkpoints)) ≡ l.last;
}
