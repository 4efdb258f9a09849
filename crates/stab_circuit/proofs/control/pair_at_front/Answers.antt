use Rattle.stab_circuit.proofs.ControlLemmas.{pair_seen}
use Rattle.stab_circuit.proofs.control.pair_at_front.Goals as goal

pub returns-in-Some-clause-value : goal.returns-in-Some-clause-value
returns-in-Some-clause-value c = pair_seen c.args.bytes.now c.in-Some.first.1.now c.in-Some.first.0 c.second_at_front.result c.in-Some.ensures.value c.second_at_front.ensures.value
