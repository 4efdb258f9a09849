use Rattle.stab_search.proofs.Names.{ℕ, ◌<◌, get_or}
use Rattle.stab_search.proofs.steps.are_lower.Given as goal

abbrev pub invariant-each : goal.invariant-each
invariant-each l = (j : ℕ) → j < l.k → get_or l.lower j 0 < l.detectors
