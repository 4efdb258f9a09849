use Rattle.stab_search.proofs.Names.{ArePairs}
use Rattle.stab_search.proofs.pairs.compare_next.Given as goal

abbrev pub invariant-loop-other : goal.invariant-loop-other
invariant-loop-other l = ArePairs l.errors.table.rows l.errors.firsts l.pairs.items
