use Rattle.stab_circuit.proofs.RoundLemmas.{some_items, only_items}
use Rattle.stab_circuit.proofs.laws.texts_have_one_meaning.Goals as goal

pub returns : goal.returns
returns c = record { law = λ text e. let found = some_items text e in (found.0, (found.1, λ other s. only_items text found.0 other found.1 s)) }
