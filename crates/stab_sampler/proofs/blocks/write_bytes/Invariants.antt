use Rattle.stab_sampler.proofs.Names.{◌≡◌, take, length, lane_bytes}
use Rattle.stab_sampler.proofs.blocks.write_bytes.Given as goal

abbrev pub invariant-loop-i : goal.invariant-loop-i
invariant-loop-i l = record {
  size : length l.bytes ≡ length l.words;
  made : take l.i l.bytes ≡ lane_bytes l.position (take l.i l.words);
}
