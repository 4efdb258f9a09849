use Rattle.stab_circuit.proofs.ItemTextLemmas.{item_is_lines}
use Rattle.stab_circuit.proofs.laws.item_texts_are_lines.Goals as goal

pub returns : goal.returns
returns c = record { law = item_is_lines }
