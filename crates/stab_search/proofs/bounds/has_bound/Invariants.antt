use Rattle.stab_search.proofs.Names.{ℕ, ◌<◌, ◌≤◌, HasAtLeast}
use Rattle.stab_search.proofs.bounds.has_bound.Given as goal

abbrev pub invariant-observables : goal.invariant-observables
invariant-observables l = (i : ℕ) → l.graph.table.detectors ≤ i → i < l.o → HasAtLeast l.graph.table i l.bound
