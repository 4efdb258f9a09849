use Rattle.stab_search.proofs.Names.{◌≡◌, ℕ, ◌<◌, get_or, slice_index}
use Rattle.stab_search.proofs.counting.any_live.Given as goal

abbrev pub invariant-errors : goal.invariant-errors
invariant-errors l = (k : ℕ) → k < l.e-index → slice_index l.weights (get_or l.errors k 0) ≡ 0
