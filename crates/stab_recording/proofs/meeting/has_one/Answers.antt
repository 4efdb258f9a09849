use Rattle.stab_recording.proofs.Names.{arith}
use Rattle.stab_recording.proofs.BitLemmas.{none-further, counted}
use Rattle.stab_recording.proofs.meeting.has_one.Goals as goal

pub returns-then-bit-clause-one : goal.returns-then-bit-clause-one
returns-then-bit-clause-one c = λ e. omega (arith, counted c.loop-bit.bit-index c.args.bits.now c.if-bit.true)

pub loop-bit-preserved : goal.loop-bit-preserved
loop-bit-preserved c = none-further c.loop-bit.bit-index c.args.bits.now c.loop-bit-test.true c.if-bit.false c.loop-bit.invariant
