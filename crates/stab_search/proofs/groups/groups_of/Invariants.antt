use Rattle.stab_search.proofs.GroupLemmas.{AreSoFar}
use Rattle.stab_search.proofs.groups.groups_of.Given as goal

abbrev pub invariant-rows : goal.invariant-rows
invariant-rows l = AreSoFar l.table l.r l.groups.rows.items l.groups.weights.items
