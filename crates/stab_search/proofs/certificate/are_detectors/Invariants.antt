use Rattle.stab_search.proofs.Names.{◌≡◌, ℕ, ◌<◌, ◌≤◌, true, false, get_or}
use Rattle.stab_search.proofs.certificate.are_detectors.Given as goal

abbrev pub invariant-members : goal.invariant-members
invariant-members l = (j : ℕ) → l.detectors ≤ j → j < l.i → get_or l.members j false ≡ true → j ≡ l.observable
