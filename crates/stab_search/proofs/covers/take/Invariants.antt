use Rattle.stab_search.proofs.Names.{◌≡◌, ℕ, ◌<◌, ◌≤◌, ◌⊎◌, true, false, length, drop, slice_index, ForEach, has}
use Rattle.stab_search.proofs.covers.take.Given as goal

abbrev pub invariant-loop-r : goal.invariant-loop-r
invariant-loop-r l = record {
  inside : (n : ℕ) → length l.initial.cover ≤ n → ForEach (λ r. r < n) l.initial.found.items → ForEach (λ r. r < n) l.found.items;
  preserved : (e : ℕ) → has e l.initial.found.items ≡ true → has e l.found.items ≡ true;
  taken : (e : ℕ) → e < length l.initial.cover → l.least ≤ slice_index l.initial.cover e → has e l.rows ≡ true
      → (has e l.found.items ≡ true) ⊎ ((has e (drop l.r-index l.rows) ≡ true) × (slice_index l.cover e ≡ slice_index l.initial.cover e));
  others : (e : ℕ) → has e l.rows ≡ false → slice_index l.cover e ≡ slice_index l.initial.cover e;
  length : length l.cover ≡ length l.initial.cover;
}
