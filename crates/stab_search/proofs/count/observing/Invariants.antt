use Rattle.stab_search.proofs.Names.{◌≡◌, ℕ, ◌<◌, ◌≤◌, true, length, odd, row, ForEach, has}
use Rattle.stab_search.proofs.count.observing.Given as goal

abbrev pub invariant-rows : goal.invariant-rows
invariant-rows l = record {
  inside : ForEach (λ q. q < length l.errors.table.rows) l.found.items;
  all : (q o : ℕ) → q < l.r → l.errors.table.detectors ≤ o → odd o (row l.errors.table.rows q) ≡ true → has q l.found.items ≡ true;
}
