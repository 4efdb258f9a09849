use Rattle.stab_sampler.proofs.Names.{◌≡◌, ℕ, ◌<◌, ◌++◌, length, take, drop, flipped, lane_bits}
use Rattle.stab_sampler.proofs.flips.flip_bits.Given as goal

abbrev pub invariant-loop-position : goal.invariant-loop-position
invariant-loop-position g l = record {
  size : length l.flips.items ≡ length l.initial.flips.items;
  made : (j : ℕ) → j < g.W.Word.lanes
      → take l.position (lane_bits g.W.Word.at j l.flips.items) ++ flipped (drop l.position l.bits) (drop l.position (lane_bits g.W.Word.at j l.flips.items))
      ≡ flipped l.bits (lane_bits g.W.Word.at j l.initial.flips.items);
}
