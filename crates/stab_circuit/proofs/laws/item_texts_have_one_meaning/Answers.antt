use Rattle.stab_circuit.proofs.ItemTextLemmas.{one_item_text}
use Rattle.stab_circuit.proofs.laws.item_texts_have_one_meaning.Goals as goal

pub returns : goal.returns
returns c = record { law = one_item_text }
