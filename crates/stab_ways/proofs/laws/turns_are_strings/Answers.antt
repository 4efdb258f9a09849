use Rattle.stab_ways.proofs.TurnLemmas.{turns-there}
use Rattle.stab_ways.proofs.laws.turns_are_strings.Goals as goal

pub returns : goal.returns
returns c = record { law = turns-there }
