use Rattle.stab_search.proofs.Names.{◌≡◌, ℕ, ◌+◌, ◌<◌, ◌≤◌, ◌-◌, ◌^◌, ◌⊎◌, true, length, drop, slice_index, has}
use Rattle.stab_search.proofs.candidates.count_each.Given as goal

abbrev pub invariant-loop-r : goal.invariant-loop-r
invariant-loop-r l = record {
  more : (e : ℕ) → has e l.rows ≡ true → l.first < e → e < length l.initial.cover → (n : ℕ) → n < 2 ^ 64 - 1 → n ≤ slice_index l.initial.cover e
      → (has e (drop l.r-index l.rows) ≡ true) ⊎ (n + 1 ≤ slice_index l.cover e);
  others : (e : ℕ) → slice_index l.initial.cover e ≤ slice_index l.cover e;
  length : length l.cover ≡ length l.initial.cover;
}
