use Rattle.stab_run.proofs.StateLemmas.{run-state}
use Rattle.stab_run.proofs.laws.runs_are_points_with_outputs.Goals as goal

pub returns : goal.returns
returns c = record { law = run-state }
