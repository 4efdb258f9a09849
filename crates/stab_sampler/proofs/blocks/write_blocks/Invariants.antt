use Rattle.stab_sampler.proofs.Names.{◌≡◌, ◌++◌, ℕ, ◌+◌, ◌*◌, ◌<◌, ◌≤◌, List, length, chunks_rest, chunks_size, word_bit, lane_bits, row_bytes}
use Rattle.stab_sampler.proofs.RowLemmas.{BeginWith}
use Rattle.stab_sampler.proofs.blocks.write_blocks.Given as goal

abbrev pub invariant-loop-group : goal.invariant-loop-group
invariant-loop-group l = record {
  whole : chunks_size l.group-iterator ≡ 64;
  room : length l.words ≤ 64 * length l.blocks.items + length (chunks_rest l.group-iterator);
  made : (j : ℕ) → j < 64 → (bytes : List ℕ) → BeginWith bytes (lane_bits word_bit j (chunks_rest l.group-iterator)) → BeginWith (row_bytes j l.blocks.items ++ bytes) (lane_bits word_bit j l.words);
}
