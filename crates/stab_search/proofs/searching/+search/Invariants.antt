use Rattle.stab_search.proofs.Names.{◌≡◌, ℕ, ◌+◌, ◌*◌, ◌<◌, length, get_or, HasNoneWithin, NoEndsBy}
use Rattle.stab_search.proofs.searching.+search.Given as goal

abbrev pub decreases-search : goal.decreases-search
decreases-search l = 2 * l.left

abbrev pub decreases-try_error : goal.decreases-try_error
decreases-try_error l = 2 * l.left + 1

abbrev pub invariant-search-tries : goal.invariant-search-tries
invariant-search-tries l = record {
  cover : length l.cover ≡ length l.errors.table.rows;
  path : l.path.items ≡ l.initial.path.items;
  tried : HasNoneWithin l.errors.table l.left → (k : ℕ) → k < l.g-index → NoEndsBy l.errors.table l.errors.pairs l.first l.initial.path.items l.flipped l.left (get_or l.g-items k 0);
}
