use Rattle.std.proofs.Common.{length}
use Rattle.stab_io.proofs.DeviceLemmas.{WroteUpTo}
use Rattle.stab_io.proofs.device.write_all.Given as goal

abbrev pub invariant-loop-rest : goal.invariant-loop-rest
invariant-loop-rest g l = WroteUpTo (g.O.Output.seen l.initial.out) (g.O.Output.seen l.out) l.bytes l.rest

abbrev pub decreases-loop-rest : goal.decreases-loop-rest
decreases-loop-rest g l = length l.rest
