use Rattle.stab_circuit.proofs.LineItemLemmas.{taken_of_lines}
use Rattle.stab_circuit.proofs.laws.taken_items_are_of_lines.Goals as goal

pub returns : goal.returns
returns c = record { law = taken_of_lines }
