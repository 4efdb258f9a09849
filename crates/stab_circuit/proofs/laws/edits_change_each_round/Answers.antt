use Rattle.stab_circuit.proofs.EachRoundLemmas.{changes_each_round}
use Rattle.stab_circuit.proofs.laws.edits_change_each_round.Goals as goal

pub returns : goal.returns
returns c = record { law = changes_each_round }
