use Rattle.stab_frames.proofs.StepLemmas.{step-by_frame}
use Rattle.stab_frames.proofs.step_laws.steps_keep_frames.Goals as goal

pub returns : goal.returns
returns c = record { law = step-by_frame }
