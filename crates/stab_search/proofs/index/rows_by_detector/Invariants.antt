use Rattle.stab_search.proofs.Names.{◌≡◌, ℕ, ◌<◌, true, length, odd, row, ForEach, has, rows_listed}
use Rattle.stab_search.proofs.index.rows_by_detector.Given as goal

abbrev pub invariant-all : goal.invariant-all
invariant-all l = record {
  inside : (d : ℕ) → ForEach (λ q. q < length l.rows) (rows_listed l.index.items d);
  complete : (d q : ℕ) → q < l.r → odd d (row l.rows q) ≡ true → has q (rows_listed l.index.items d) ≡ true;
}
