use Rattle.stab_search.proofs.Names.{◌≡◌, ℕ, ◌<◌, length, take, ForEach, IsAscending, odd, flipped_by_rows}
use Rattle.stab_search.proofs.logical.flipped_by.Given as goal

abbrev pub invariant-each : goal.invariant-each
invariant-each l = record {
  inside : ForEach (λ r. r < length l.rows) (take l.r-index l.errors);
  ascending : IsAscending l.flipped.items;
  flipped : (i : ℕ) → odd i l.flipped.items ≡ flipped_by_rows l.rows (take l.r-index l.errors) i;
}
