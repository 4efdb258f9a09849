use Rattle.stab_sampler.proofs.Names.{◌≡◌, ℕ, ◌<◌, ◌≤◌, length, slice_index_or, bit_xor}
use Rattle.stab_sampler.proofs.wide.WideWord.xor.Given as goal

abbrev pub invariant-loop-k : goal.invariant-loop-k
invariant-loop-k g l = record {
  size : length l.words ≡ g.row.N;
  done : (p : ℕ) → p < l.k → slice_index_or l.words p 0 ≡ bit_xor (slice_index_or l.fn.self.words p 0) (slice_index_or l.other.words p 0);
  rest : (p : ℕ) → l.k ≤ p → slice_index_or l.words p 0 ≡ slice_index_or l.fn.self.words p 0;
}
