use Rattle.stab_search.proofs.Names.{◌≡◌, ℕ, ◌<◌, ◌⊎◌, true, false, List, length, drop, slice_index, has}
use Rattle.stab_search.proofs.counting.put_back.Given as goal

abbrev pub invariant-errors : goal.invariant-errors
invariant-errors l = record {
  back : (was : List ℕ) → ((k : ℕ) → k < length l.errors → slice_index l.before k ≡ slice_index was (slice_index l.errors k))
      → ((e : ℕ) → has e l.errors ≡ false → slice_index l.initial.weights e ≡ slice_index was e)
      → (e : ℕ) → (has e (drop l.k l.errors) ≡ true) ⊎ (slice_index l.weights e ≡ slice_index was e);
  size : length l.weights ≡ length l.initial.weights;
}
