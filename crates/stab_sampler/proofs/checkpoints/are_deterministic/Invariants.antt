use Rattle.stab_sampler.proofs.Names.{◌≡◌, ℕ, ◌<◌, ◌≤◌, false, slice_index_or}
use Rattle.stab_sampler.proofs.checkpoints.are_deterministic.Given as goal

abbrev pub invariant-loop-coin : goal.invariant-loop-coin
invariant-loop-coin l = (t : ℕ) → l.from ≤ t → t < l.coin → slice_index_or l.free t false ≡ false
