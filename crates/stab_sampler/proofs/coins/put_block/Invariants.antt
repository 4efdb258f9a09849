use Rattle.stab_sampler.proofs.Names.{◌≡◌, ◌≢◌, ◌==◌, ℕ, ◌+◌, ◌*◌, ◌/◌, ◌%◌, ◌<◌, ◌≤◌, false, slice_index_or, length, word_bit}
use Rattle.stab_sampler.proofs.coins.put_block.Given as goal

abbrev pub invariant-loop-k : goal.invariant-loop-k
invariant-loop-k l = record {
  size : length l.words ≡ 64;
  here : (k : ℕ) → k < l.k → word_bit (slice_index_or l.initial.words (16 * l.block + k) 0) l.lane ≡ false → word_bit (slice_index_or l.words (16 * l.block + k) 0) l.lane ≡ (slice_index_or l.given k 0 % 2 == 1);
  following : (k : ℕ) → l.k ≤ k → slice_index_or l.words (16 * l.block + k) 0 ≡ slice_index_or l.initial.words (16 * l.block + k) 0;
  elsewhere : (k : ℕ) → k / 16 ≢ l.block → slice_index_or l.words k 0 ≡ slice_index_or l.initial.words k 0;
  others : (k j : ℕ) → k < 64 → j ≢ l.lane → word_bit (slice_index_or l.words k 0) j ≡ word_bit (slice_index_or l.initial.words k 0) j;
}
