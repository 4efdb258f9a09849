use Rattle.stab_circuit.proofs.SpacedTargetLemmas.{qubit_seen}
use Rattle.stab_circuit.proofs.spaced_target.QubitTargetsSpacedTarget.in_front.Goals as goal

pub returns-clause-value : goal.returns-clause-value
returns-clause-value c = qubit_seen c.args.bytes.now c.spaced_qubit.result c.spaced_qubit.ensures.value
