use Rattle.stab_search.proofs.Names.{◌≡◌, ℕ, ◌<◌, length, get_or, slice_index}
use Rattle.stab_search.proofs.enough_errors.numbers_at.Given as goal

abbrev pub invariant-positions : goal.invariant-positions
invariant-positions l = record {
  made : length l.found.items ≡ l.k;
  each : (j : ℕ) → j < l.k → get_or l.found.items j 0 ≡ slice_index l.numbers (get_or l.positions j 0);
}
