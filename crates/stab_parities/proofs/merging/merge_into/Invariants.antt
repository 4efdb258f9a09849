use Rattle.stab_parities.proofs.Names.{◌≡◌, ℕ, ◌+◌, ◌≤◌, ◌++◌, length, drop, ◌⊕◌, IsAscending, odd}
use Rattle.stab_parities.proofs.merging.merge_into.Given as goal

abbrev pub invariant-heads : goal.invariant-heads
invariant-heads l = record {
  left_in : l.a ≤ length l.left;
  right_in : l.b ≤ length l.right;
  left_next : IsAscending (l.merged.items ++ drop l.a l.left);
  right_next : IsAscending (l.merged.items ++ drop l.b l.right);
  odd : (i : ℕ) → odd i l.merged.items ⊕ (odd i (drop l.a l.left) ⊕ odd i (drop l.b l.right)) ≡ odd i l.left ⊕ odd i l.right;
}

abbrev pub decreases-heads : goal.decreases-heads
decreases-heads l = length (drop l.a l.left) + length (drop l.b l.right)
