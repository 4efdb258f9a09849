use Rattle.stab_frames.proofs.StepLemmas.{over-by_frame}
use Rattle.stab_frames.proofs.step_laws.runs_keep_frames.Goals as goal

pub returns : goal.returns
returns c = record { law = over-by_frame }
