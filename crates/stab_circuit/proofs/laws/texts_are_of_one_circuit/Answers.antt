use Rattle.stab_circuit.proofs.CircuitFaultLemmas.{one_circuit}
use Rattle.stab_circuit.proofs.laws.texts_are_of_one_circuit.Goals as goal

pub returns : goal.returns
returns c = record { law = one_circuit }
