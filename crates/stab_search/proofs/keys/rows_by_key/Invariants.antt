use Rattle.stab_search.proofs.Names.{◌≡◌, ℕ, ◌<◌, true, length, get_or, bit_and, ForEach, has, rows_listed}
use Rattle.stab_search.proofs.keys.rows_by_key.Given as goal

abbrev pub invariant-keys : goal.invariant-keys
invariant-keys l = record {
  inside : (position : ℕ) → ForEach (λ r. r < length l.keys) (rows_listed l.index.items position);
  complete : (q : ℕ) → q < l.r → has q (rows_listed l.index.items (bit_and (get_or l.keys q 0) l.mask)) ≡ true;
}
