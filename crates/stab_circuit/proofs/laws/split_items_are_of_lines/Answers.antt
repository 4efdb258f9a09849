use Rattle.stab_circuit.proofs.SplitLineLemmas.{split_of_lines}
use Rattle.stab_circuit.proofs.laws.split_items_are_of_lines.Goals as goal

pub returns : goal.returns
returns c = record { law = split_of_lines }
