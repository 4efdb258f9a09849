use Rattle.stab_circuit.proofs.Names.{length, AreSpacedTargets}
use Rattle.stab_circuit.proofs.spaced_target.targets_in_front.Given as goal

abbrev pub invariant-loop-target : goal.invariant-loop-target
invariant-loop-target g l = AreSpacedTargets g.T.SpacedTarget.meaning l.bytes l.found.items l.rest

abbrev pub decreases-loop-target : goal.decreases-loop-target
decreases-loop-target g l = length l.rest
