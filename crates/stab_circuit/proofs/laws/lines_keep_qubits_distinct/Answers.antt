use Rattle.stab_circuit.proofs.Names.{joined_distinct}
use Rattle.stab_circuit.proofs.laws.lines_keep_qubits_distinct.Goals as goal

pub returns : goal.returns
returns c = record { law = λ lines items s. joined_distinct lines items s.each s.joined }
