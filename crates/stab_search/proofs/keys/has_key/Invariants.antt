use Rattle.stab_search.proofs.Names.{◌≢◌, ℕ, ◌<◌, length, get_or}
use Rattle.stab_search.proofs.keys.has_key.Given as goal

abbrev pub invariant-candidates : goal.invariant-candidates
invariant-candidates l = (k : ℕ) → k < l.r-index → get_or l.candidates k 0 < length l.keys → get_or l.keys (get_or l.candidates k 0) 0 ≢ l.key
