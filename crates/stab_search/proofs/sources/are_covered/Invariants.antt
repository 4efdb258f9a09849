use Rattle.stab_search.proofs.Names.{◌≡◌, ◌⊎◌, ℕ, ◌<◌, true, false, get_or, edge}
use Rattle.stab_search.proofs.sources.are_covered.Given as goal

abbrev pub invariant-edges : goal.invariant-edges
invariant-edges l = (q : ℕ) → q < l.r → get_or l.bits q false ≡ true → (get_or l.sources (edge l.edges q).first false ≡ true) ⊎ (get_or l.sources (edge l.edges q).second false ≡ true)
