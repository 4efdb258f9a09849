use Rattle.stab_search.proofs.Names.{◌≡◌, length}
use Rattle.stab_search.proofs.errors.numbers_of.Given as goal

abbrev pub invariant-each : goal.invariant-each
invariant-each l = length l.numbers.items ≡ l.d
