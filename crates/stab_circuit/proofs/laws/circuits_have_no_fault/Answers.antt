use Rattle.stab_circuit.proofs.CircuitFaultLemmas.{no_fault}
use Rattle.stab_circuit.proofs.laws.circuits_have_no_fault.Goals as goal

pub returns : goal.returns
returns c = record { law = no_fault }
