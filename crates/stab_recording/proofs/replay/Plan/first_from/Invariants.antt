use Rattle.stab_recording.proofs.Names.{ℕ, ◌<◌, ◌≤◌, slice_get, IfSome}
use Rattle.stab_recording.proofs.replay.Plan.first_from.Given as goal

abbrev pub invariant-loop-number : goal.invariant-loop-number
invariant-loop-number l = record {
  among : (i : ℕ) → l.next ≤ i → i < l.number → IfSome (slice_get l.checkpoints i) (λ c. l.begin ≤ c.step);
}
