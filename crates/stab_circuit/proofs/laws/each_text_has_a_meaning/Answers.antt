use Rattle.stab_circuit.proofs.CircuitFaultLemmas.{some_meaning}
use Rattle.stab_circuit.proofs.laws.each_text_has_a_meaning.Goals as goal

pub returns : goal.returns
returns c = record { law = some_meaning }
