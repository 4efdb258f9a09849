use Rattle.stab_search.proofs.Names.{◌≡◌, ℕ, ◌<◌, length, slice_index}
use Rattle.stab_search.proofs.counting.weights_at.Given as goal

abbrev pub invariant-errors : goal.invariant-errors
invariant-errors l = record {
  count : length l.found.items ≡ l.k;
  each : (j : ℕ) → j < l.k → slice_index l.found.items j ≡ slice_index l.weights (slice_index l.errors j);
}
