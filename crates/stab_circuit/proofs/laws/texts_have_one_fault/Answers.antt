use Rattle.stab_circuit.proofs.CircuitFaultLemmas.{one_fault}
use Rattle.stab_circuit.proofs.laws.texts_have_one_fault.Goals as goal

pub returns : goal.returns
returns c = record { law = one_fault }
