use Rattle.stab_search.proofs.Names.{◌≡◌, ℕ, false, length, slice_index, has}
use Rattle.stab_search.proofs.candidates.clear.Given as goal

abbrev pub invariant-loop-r : goal.invariant-loop-r
invariant-loop-r l = record {
  others : (e : ℕ) → has e l.rows ≡ false → slice_index l.cover e ≡ slice_index l.initial.cover e;
  length : length l.cover ≡ length l.initial.cover;
}
