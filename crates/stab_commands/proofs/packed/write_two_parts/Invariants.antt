use Rattle.stab_commands.proofs.Names.{◌≡◌, ℕ, ◌+◌, ◌*◌, ◌<◌, take, length, word_bit, lane_bits}
use Rattle.stab_commands.proofs.packed.write_two_parts.Given as goal

abbrev pub invariant-loop-k : goal.invariant-loop-k
invariant-loop-k g l = record {
  size : length l.first ≡ length l.words;
  second_size : length l.second ≡ length l.words;
  made : (j : ℕ) → j < 64 → lane_bits word_bit j (take l.k l.first) ≡ lane_bits g.W.Word.at (64 * l.position + j) (take l.k l.words);
  second : (j : ℕ) → j < 64 → lane_bits word_bit j (take l.k l.second) ≡ lane_bits g.W.Word.at (64 * l.next + j) (take l.k l.words);
}
