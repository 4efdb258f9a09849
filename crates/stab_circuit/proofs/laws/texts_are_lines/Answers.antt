use Rattle.stab_circuit.proofs.RoundLemmas.{text_is_lines}
use Rattle.stab_circuit.proofs.laws.texts_are_lines.Goals as goal

pub returns : goal.returns
returns c = record { law = text_is_lines }
