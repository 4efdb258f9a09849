use Rattle.stab_results.proofs.ZeroLemmas.{goes_past, none_left}
use Rattle.stab_results.proofs.one_positions.are_zeros.Goals as goal

pub loop-bit-preserved : goal.loop-bit-preserved
loop-bit-preserved c = goes_past c.args.bits.now c.loop-bit.any c.loop-bit.bit-index c.loop-bit-test.true c.loop-bit.invariant

pub returns : goal.returns
returns c = record { zeros = none_left c.args.bits.now c.loop-bit.any c.loop-bit.bit-index c.loop-bit-test.false c.loop-bit.invariant }
