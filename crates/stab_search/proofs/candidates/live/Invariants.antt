use Rattle.stab_search.proofs.Names.{◌≡◌, ℕ, ◌<◌, ◌≤◌, ◌⊎◌, true, length, drop, slice_index, ForEach, has}
use Rattle.stab_search.proofs.candidates.live.Given as goal

abbrev pub invariant-loop-r : goal.invariant-loop-r
invariant-loop-r l = record {
  inside : ForEach (λ r. r < length l.cover) l.found.items;
  all : (e : ℕ) → has e l.rows ≡ true → e < length l.cover → 1 ≤ slice_index l.cover e
      → (has e (drop l.r-index l.rows) ≡ true) ⊎ (has e l.found.items ≡ true);
}
