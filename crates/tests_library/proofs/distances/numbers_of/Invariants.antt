use Rattle.std.proofs.Common.{◌<◌}
use Rattle.stab_parities.specs.Ascending.{IsAscending}
use Rattle.stab_search.specs.inner.Lists.{ForEach}
use Rattle.tests_library.proofs.distances.numbers_of.Given as goal

abbrev pub invariant-bits : goal.invariant-bits
invariant-bits l = record {
  ascending : IsAscending l.numbers.items;
  below : ForEach (λ x. x < l.n) l.numbers.items;
}
