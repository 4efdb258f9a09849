use Rattle.stab_search.proofs.Names.{◌≡◌, ℕ, ◌+◌, ◌*◌, ◌<◌, false, length, get_or, slice_index, has, IsWaysPart}
use Rattle.stab_search.proofs.counting.+ways.Given as goal

abbrev pub decreases-ways : goal.decreases-ways
decreases-ways l = 3 * l.left

abbrev pub decreases-try_each : goal.decreases-try_each
decreases-try_each l = 3 * l.rest + 2

abbrev pub decreases-try_error : goal.decreases-try_error
decreases-try_error l = 3 * l.rest + 1

abbrev pub invariant-try_each-tries : goal.invariant-try_each-tries
invariant-try_each-tries l = record {
  weights : length l.weights ≡ length l.errors.table.rows;
  cover : length l.cover ≡ length l.errors.table.rows;
  part : IsWaysPart l.errors.table l.initial.weights l.weights (l.rest + 1) l.flipped l.sum;
  zero : (k : ℕ) → k < l.g-index → slice_index l.weights (get_or l.tried k 0) ≡ 0;
  others : (e : ℕ) → has e l.tried ≡ false → slice_index l.weights e ≡ slice_index l.initial.weights e;
}
