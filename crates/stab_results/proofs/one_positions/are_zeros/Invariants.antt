use Rattle.std.proofs.Common.{◌≡◌, drop, false}
use Rattle.stab_results.specs.Formats.{one_positions, one_positions_from}
use Rattle.stab_results.proofs.one_positions.are_zeros.Given as goal

abbrev pub invariant-loop-bit : goal.invariant-loop-bit
invariant-loop-bit l = l.any ≡ false → one_positions l.bits ≡ one_positions_from l.bit-index (drop l.bit-index l.bits)
