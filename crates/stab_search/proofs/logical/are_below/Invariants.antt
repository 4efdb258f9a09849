use Rattle.stab_search.proofs.Names.{ℕ, ◌<◌, get_or}
use Rattle.stab_search.proofs.logical.are_below.Given as goal

abbrev pub invariant-each : goal.invariant-each
invariant-each l = (j : ℕ) → j < l.k-index → get_or l.found j 0 < l.end
