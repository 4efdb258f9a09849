use Rattle.stab_run.proofs.StateLemmas.{run_of-same}
use Rattle.stab_run.proofs.laws.runs_depend_on_deciding_coins.Goals as goal

pub returns : goal.returns
returns c = record { law = run_of-same }
