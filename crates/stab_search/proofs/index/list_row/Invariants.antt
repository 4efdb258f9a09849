use Rattle.stab_search.proofs.Names.{◌≡◌, ℕ, ◌<◌, true, get_or, ForEach, has, rows_listed}
use Rattle.stab_search.proofs.index.list_row.Given as goal

abbrev pub invariant-each : goal.invariant-each
invariant-each l = record {
  others : (d q : ℕ) → has q (rows_listed l.fn.index.items d) ≡ true → has q (rows_listed l.index.items d) ≡ true;
  added : (k : ℕ) → k < l.d-index → has l.r (rows_listed l.index.items (get_or l.positions k 0)) ≡ true;
  inside : (n d : ℕ) → l.r < n → ForEach (λ q. q < n) (rows_listed l.fn.index.items d) → ForEach (λ q. q < n) (rows_listed l.index.items d);
}
