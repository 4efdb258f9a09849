use Rattle.stab_sampler.proofs.Names.{◌≡◌, ◌≢◌, ◌==◌, ℕ, ◌/◌, ◌%◌, ◌<◌, ◌≤◌, false, [], slice_index_or, word_bit}
use Rattle.stab_sampler.proofs.coins.put_lane.Given as goal

abbrev pub invariant-loop-block : goal.invariant-loop-block
invariant-loop-block l = record {
  here : (k : ℕ) → k / 16 < l.block → word_bit (slice_index_or l.initial.words k 0) l.lane ≡ false → word_bit (slice_index_or l.words k 0) l.lane ≡ (slice_index_or (slice_index_or l.blocks (k / 16) []) (k % 16) 0 % 2 == 1);
  following : (k : ℕ) → l.block ≤ k / 16 → slice_index_or l.words k 0 ≡ slice_index_or l.initial.words k 0;
  others : (k j : ℕ) → k < 64 → j ≢ l.lane → word_bit (slice_index_or l.words k 0) j ≡ word_bit (slice_index_or l.initial.words k 0) j;
}
