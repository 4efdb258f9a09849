use Rattle.stab_frames.proofs.Names.{◌≡◌, ◌+◌, ◌≤◌, drop, ones}
use Rattle.stab_frames.proofs.bits.count_ones.Given as goal

abbrev pub invariant-loop-bit : goal.invariant-loop-bit
invariant-loop-bit l = record {
  few : l.count ≤ l.bit-index;
  counted : l.count + ones (drop l.bit-index l.bits) ≡ ones l.bits;
}
