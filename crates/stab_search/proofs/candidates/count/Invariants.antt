use Rattle.stab_search.proofs.Names.{◌≡◌, [], length, take, CoversEach}
use Rattle.stab_search.proofs.candidates.count.Given as goal

abbrev pub invariant-loop-position : goal.invariant-loop-position
invariant-loop-position l = record {
  covers : CoversEach l.errors.table.rows l.errors.pairs l.first [] (take l.position l.detectors) l.cover;
  length : length l.cover ≡ length l.errors.table.rows;
}
