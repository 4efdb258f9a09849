use Rattle.stab_search.proofs.Names.{ℕ, ◌<◌, ◌≤◌, FollowsDetectors}
use Rattle.stab_search.proofs.certificate.are_certified.Given as goal

abbrev pub invariant-observables : goal.invariant-observables
invariant-observables g l = (o : ℕ) → l.detectors ≤ o → o < l.o → FollowsDetectors (record { detectors = l.detectors; rows = l.rows }) o
