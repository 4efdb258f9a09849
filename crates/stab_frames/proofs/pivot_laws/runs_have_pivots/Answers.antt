use Rattle.stab_frames.proofs.RunPivotLemmas.{run-pivots}
use Rattle.stab_frames.proofs.pivot_laws.runs_have_pivots.Goals as goal

pub returns : goal.returns
returns c = record { law = run-pivots }
