use Rattle.stab_search.proofs.Names.{take, map, slice_index, IsGathered}
use Rattle.stab_search.proofs.sets.set_of.Given as goal

abbrev pub invariant-each : goal.invariant-each
invariant-each l = IsGathered (map (slice_index l.numbers) (take l.k-index l.found)) l.set.items
