use Rattle.stab_search.proofs.Names.{◌≡◌, ◌+◌, length, take, AreBuilt, AreParities}
use Rattle.stab_search.proofs.sums.parities_of.Given as goal

abbrev pub invariant-errors : goal.invariant-errors
invariant-errors l = record {
  first : l.built.first ≡ length l.table.rows + 2;
  built : AreBuilt l.built;
  parities : AreParities (take l.number l.table.rows) l.built.sums.items l.built.parities.items;
}
