use Rattle.stab_sampler.proofs.Names.{◌≡◌, ℕ, ◌+◌, ◌*◌, ◌<◌, take, length, word_bit, lane_bits}
use Rattle.stab_sampler.proofs.blocks.write_part.Given as goal

abbrev pub invariant-loop-k : goal.invariant-loop-k
invariant-loop-k g l = record {
  size : length l.part ≡ length l.words;
  made : (j : ℕ) → j < 64 → lane_bits word_bit j (take l.k l.part) ≡ lane_bits g.W.Word.at (64 * l.position + j) (take l.k l.words);
}
