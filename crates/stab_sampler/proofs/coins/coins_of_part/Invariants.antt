use Rattle.stab_sampler.proofs.Names.{◌≡◌, ℕ, ◌+◌, ◌<◌, length, slice_index_or, word_bit}
use Rattle.stab_sampler.proofs.coins.coins_of_part.Given as goal

abbrev pub invariant-loop-k : goal.invariant-loop-k
invariant-loop-k l = record {
  size : length l.words ≡ 64;
  low : (k j : ℕ) → k < l.k → j < 32 → word_bit (slice_index_or l.words k 0) j ≡ word_bit (slice_index_or l.low k 0) j;
  high : (k j : ℕ) → k < l.k → word_bit (slice_index_or l.words k 0) (32 + j) ≡ word_bit (slice_index_or l.high k 0) j;
}
