use Rattle.stab_search.proofs.Names.{ArePairs}
use Rattle.stab_search.proofs.pairs.pairs_of.Given as goal

abbrev pub invariant-loop-position : goal.invariant-loop-position
invariant-loop-position l = ArePairs l.errors.table.rows l.errors.firsts l.pairs.items
