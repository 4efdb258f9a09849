use Rattle.stab_circuit.proofs.SpacedTargetLemmas.{measure_target}
use Rattle.stab_circuit.proofs.spaced_target.MeasureTargetsSpacedTarget.in_front.Goals as goal

pub returns-in-Some-clause-value : goal.returns-in-Some-clause-value
returns-in-Some-clause-value c = measure_target c.args.bytes.now c.in-Some.found.1.now c.in-Some.found.0 c.measured.result c.in-Some.ensures.value c.measured.ensures.value
