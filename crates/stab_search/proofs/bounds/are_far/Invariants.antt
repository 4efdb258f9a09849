use Rattle.stab_search.proofs.Names.{◌≡◌, ℕ, ◌<◌, true, false, get_or, IsFar}
use Rattle.stab_search.proofs.bounds.are_far.Given as goal

abbrev pub invariant-sources : goal.invariant-sources
invariant-sources l = (i : ℕ) → i < l.s → get_or l.sources i false ≡ true → IsFar l.graph.edges l.bits i l.bound
