use Rattle.stab_session.proofs.Names.{◌≡◌, ℕ, ◌+◌, ◌≤◌, Bool, List, All, length, drop, Step, RunOutput, pivot_at, IsPlaced, IsCheckpoint, IsFrameBetween, IsBeforePiece}
use Rattle.stab_session.proofs.past_sites.propagate_piece.Given as goal

abbrev pub invariant-loop-checkpoint : goal.invariant-loop-checkpoint
invariant-loop-checkpoint l = record {
  within : l.gone ≤ l.gap;
  all : l.cursor.all ≡ l.initial.cursor.all;
  left : l.cursor.left ≡ drop l.gone l.initial.cursor.left;
  size : length l.propagation.letters ≡ length l.initial.propagation.letters;
  placed : IsPlaced l.free l.propagation;
  coin : l.propagation.coin + length l.cursor.left ≤ l.initial.propagation.coin + length l.initial.cursor.left;
  counted : l.by_frame + length l.cursor.left ≤ l.initial.by_frame + length l.initial.cursor.left;
  count : length l.passed.items ≡ length l.initial.passed.items + l.checkpoint-index;
  between : (coins : ℕ → Bool) (xs : List Step) (base : ℕ) (front : RunOutput)
      → IsBeforePiece (length l.initial.propagation.letters) coins xs l.initial.cursor.all (pivot_at l.strings.strings l.free) l.free base front l.old l.new l.gap l.initial.cursor.left l.initial.propagation
      → IsFrameBetween (length l.initial.propagation.letters) coins xs l.initial.cursor.all (pivot_at l.strings.strings l.free) l.free base front (l.old + l.gone) (l.new + l.gone) l.propagation;
  checkpoints : (coins : ℕ → Bool) (xs : List Step) (base : ℕ) (front : RunOutput)
      → IsBeforePiece (length l.initial.propagation.letters) coins xs l.initial.cursor.all (pivot_at l.strings.strings l.free) l.free base front l.old l.new l.gap l.initial.cursor.left l.initial.propagation
      → All (IsCheckpoint (length l.initial.propagation.letters) coins xs) l.checkpoints → All (IsCheckpoint (length l.initial.propagation.letters) coins l.initial.cursor.all) l.initial.passed.items
      → All (IsCheckpoint (length l.initial.propagation.letters) coins l.initial.cursor.all) l.passed.items;
}
