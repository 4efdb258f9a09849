use Rattle.stab_search.proofs.Names.{◌≡◌, ℕ, ◌<◌, get_or, lowered}
use Rattle.stab_search.proofs.steps.are_moved.Given as goal

abbrev pub invariant-each : goal.invariant-each
invariant-each l = (j : ℕ) → j < l.k → get_or l.below j 0 ≡ lowered l.lower (get_or l.above j 0)
