use Rattle.stab_recording.proofs.Names.{length, ◌-◌, ◌<◌, ◌≤◌, All, take}
use Rattle.stab_recording.proofs.checkpoint.count_before.Given as goal

abbrev pub invariant-loop-count : goal.invariant-loop-count
invariant-loop-count l = record {
  within : l.count ≤ length l.checkpoints;
  before : All (λ c. c.step < l.step) (take l.count l.checkpoints);
}

abbrev pub decreases-loop-count : goal.decreases-loop-count
decreases-loop-count l = length l.checkpoints - l.count
