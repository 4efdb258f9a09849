use Rattle.stab_circuit.proofs.SpacedTargetLemmas.{pair_seen}
use Rattle.stab_circuit.proofs.spaced_target.PairTargetsSpacedTarget.in_front.Goals as goal

pub returns-clause-value : goal.returns-clause-value
returns-clause-value c = pair_seen c.args.bytes.now c.spaced_pair.result c.spaced_pair.ensures.value
