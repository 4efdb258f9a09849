use Rattle.stab_search.proofs.Names.{◌≡◌, take, Adds, AreBuilt}
use Rattle.stab_search.proofs.sums.add_error.Given as goal

abbrev pub invariant-each : goal.invariant-each
invariant-each l = record {
  first : l.built.first ≡ l.initial.built.first;
  built : AreBuilt l.built;
  adds : Adds l.variable (take l.number-index l.flipped) l.initial.built.sums.items l.initial.built.parities.items l.built.sums.items l.built.parities.items;
}
