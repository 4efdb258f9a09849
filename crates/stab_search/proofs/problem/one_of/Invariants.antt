use Rattle.stab_search.proofs.Names.{◌≡◌, ◌∷◌, map, take, Is, IsNot}
use Rattle.stab_search.proofs.problem.one_of.Given as goal

abbrev pub invariant-each : goal.invariant-each
invariant-each l = l.clause.items ≡ IsNot l.variable ∷ map (λ v. Is v) (take l.other-index l.other-items)
