use Rattle.stab_run.proofs.RoundLemmas.{rounds-again}
use Rattle.stab_run.proofs.laws.rounds_come_again.Goals as goal

pub returns : goal.returns
returns c = record { law = rounds-again }
