use Rattle.stab_circuit.proofs.LineItemLemmas.{edited_of_lines}
use Rattle.stab_circuit.proofs.laws.edited_items_are_of_lines.Goals as goal

pub returns : goal.returns
returns c = record { law = edited_of_lines }
