use Rattle.stab_sampler.proofs.Names.{◌≡◌, ℕ, ◌<◌, slice_index_or}
use Rattle.stab_sampler.proofs.wide.WideWord.is_same.Given as goal

abbrev pub invariant-loop-k : goal.invariant-loop-k
invariant-loop-k g l = (p : ℕ) → p < l.k → slice_index_or l.self.words p 0 ≡ slice_index_or l.other.words p 0
