use Rattle.stab_search.proofs.Names.{ℕ, ◌<◌, false, get_or, edge, AreNearAlong}
use Rattle.stab_search.proofs.labels.are_near_along.Given as goal

abbrev pub invariant-edges : goal.invariant-edges
invariant-edges l = (q : ℕ) → q < l.r → AreNearAlong l.labels (edge l.edges q) (get_or l.bits q false)
