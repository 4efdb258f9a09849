use Rattle.stab_circuit.proofs.RoundLemmas.{read_back}
use Rattle.stab_circuit.proofs.laws.printed_items_are_read_back.Goals as goal

pub returns : goal.returns
returns c = record { law = read_back }
