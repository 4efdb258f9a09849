use Rattle.stab_search.proofs.Names.{◌≡◌, ℕ, ◌<◌, false, length, get_or, odd, row}
use Rattle.stab_search.proofs.edges.bits_of.Given as goal

abbrev pub invariant-rows : goal.invariant-rows
invariant-rows l = record {
  made : length l.bits.items ≡ l.r;
  each : (q : ℕ) → q < l.r → get_or l.bits.items q false ≡ odd l.i (row l.rows q);
}
