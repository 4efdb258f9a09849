use Rattle.stab_search.proofs.Names.{◌≡◌, ℕ, ◌<◌, get_or, slice_index}
use Rattle.stab_search.proofs.enough_errors.none_counts.Given as goal

abbrev pub invariant-each : goal.invariant-each
invariant-each l = (j : ℕ) → j < l.d-index → (get_or l.numbers j 0 < l.detectors) × (slice_index l.classes (get_or l.numbers j 0) ≡ 0)
