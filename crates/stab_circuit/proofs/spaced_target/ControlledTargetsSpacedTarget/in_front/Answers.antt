use Rattle.stab_circuit.proofs.SpacedTargetLemmas.{controlled_target}
use Rattle.stab_circuit.proofs.spaced_target.ControlledTargetsSpacedTarget.in_front.Goals as goal

pub returns-in-Some-clause-value : goal.returns-in-Some-clause-value
returns-in-Some-clause-value c = controlled_target c.args.bytes.now c.in-Some.found.1.now c.in-Some.found.0 c.controlled.result c.in-Some.ensures.value c.controlled.ensures.value
