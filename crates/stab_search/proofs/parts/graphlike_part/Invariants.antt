use Rattle.stab_search.proofs.Names.{◌≡◌, ℕ, ◌<◌, ◌⊎◌, [], length, row, IsGraphlike}
use Rattle.stab_search.proofs.parts.graphlike_part.Given as goal

abbrev pub invariant-rows : goal.invariant-rows
invariant-rows l = record {
  detectors : l.part.detectors ≡ l.table.detectors;
  made : length l.part.rows ≡ l.r;
  preserved : (q : ℕ) → q < l.r → IsGraphlike l.table.detectors (row l.table.rows q) → row l.part.rows q ≡ row l.table.rows q;
  others : (q : ℕ) → q < l.r → IsGraphlike l.table.detectors (row l.table.rows q) ⊎ (row l.part.rows q ≡ []);
}
