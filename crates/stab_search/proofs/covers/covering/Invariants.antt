use Rattle.stab_search.proofs.Names.{◌≡◌, ℕ, ◌<◌, ◌≤◌, ◌⊎◌, true, length, drop, slice_index, odd, row, ForEach, has}
use Rattle.stab_search.proofs.covers.covering.Given as goal

abbrev pub invariant-loop-d : goal.invariant-loop-d
invariant-loop-d l = record {
  inside : ForEach (λ r. r < length l.initial.cover) l.found.items;
  all : (e d : ℕ) → e < length l.initial.cover → l.least ≤ slice_index l.initial.cover e → has d l.detectors ≡ true
      → e < length l.errors.table.rows → odd d (row l.errors.table.rows e) ≡ true
      → (has e l.found.items ≡ true) ⊎ ((has d (drop l.d-index l.detectors) ≡ true) × (slice_index l.cover e ≡ slice_index l.initial.cover e));
  length : length l.cover ≡ length l.initial.cover;
}
