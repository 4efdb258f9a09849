use Rattle.stab_search.proofs.Names.{◌≡◌, ℕ, ◌<◌, length, get_or, row, key_of}
use Rattle.stab_search.proofs.errors.keys_of.Given as goal

abbrev pub invariant-rows : goal.invariant-rows
invariant-rows l = record {
  made : length l.keys.items ≡ l.r;
  each : (q : ℕ) → q < l.r → get_or l.keys.items q 0 ≡ key_of l.numbers (row l.rows q);
}
