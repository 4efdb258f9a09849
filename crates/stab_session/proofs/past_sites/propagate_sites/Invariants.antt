use Rattle.stab_session.proofs.Names.{◌≡◌, ℕ, ◌+◌, ◌≤◌, Bool, List, All, length, Step, Span, RunOutput, StepFits, pivot_at, IsPlaced, IsCheckpoint, IsBeforeSites}
use Rattle.stab_session.proofs.PastSiteLemmas.{IsUnderWay}
use Rattle.stab_session.proofs.past_sites.propagate_sites.Given as goal

abbrev pub invariant-loop-gap : goal.invariant-loop-gap
invariant-loop-gap l = record {
  all : l.cursor.all ≡ l.initial.cursor.all;
  fits : All (StepFits (length l.initial.propagation.letters)) l.cursor.left;
  size : length l.propagation.letters ≡ length l.initial.propagation.letters;
  placed : IsPlaced l.free l.propagation;
  coin : l.propagation.coin + length l.cursor.left ≤ l.initial.propagation.coin + length l.initial.cursor.left;
  counted : l.by_frame + length l.cursor.left ≤ l.initial.by_frame + length l.initial.cursor.left;
  within : length l.passed.items ≤ length l.checkpoints;
  under_way : (coins : ℕ → Bool) (xs : List Step) (base : ℕ) (front : RunOutput) (s : Span) → s.first ≡ l.first
      → (b : IsBeforeSites (length l.initial.propagation.letters) coins xs l.initial.cursor.all (pivot_at l.strings.strings l.free) l.free base front s l.change l.initial.cursor.left l.initial.propagation)
      → IsUnderWay (length l.initial.propagation.letters) coins xs l.initial.cursor.all (pivot_at l.strings.strings l.free) l.free base front s l.change b.differ.differ.old_gates b.differ.differ.new_gates
      l.gap-index l.old l.new l.cursor.left l.propagation;
  are_checkpoints : (coins : ℕ → Bool) (xs : List Step) (base : ℕ) (front : RunOutput) (s : Span) → s.first ≡ l.first
      → IsBeforeSites (length l.initial.propagation.letters) coins xs l.initial.cursor.all (pivot_at l.strings.strings l.free) l.free base front s l.change l.initial.cursor.left l.initial.propagation
      → All (IsCheckpoint (length l.initial.propagation.letters) coins xs) l.checkpoints → All (IsCheckpoint (length l.initial.propagation.letters) coins l.initial.cursor.all) l.passed.items;
}
