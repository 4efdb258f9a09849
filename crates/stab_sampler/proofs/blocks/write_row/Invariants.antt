use Rattle.stab_sampler.proofs.Names.{◌≡◌, ◌*◌, take, length, row_bytes}
use Rattle.stab_sampler.proofs.blocks.write_row.Given as goal

abbrev pub invariant-loop-i : goal.invariant-loop-i
invariant-loop-i l = record {
  size : length l.bytes ≡ 8 * length l.blocks;
  made : take (8 * l.i) l.bytes ≡ row_bytes l.lane (take l.i l.blocks);
}
