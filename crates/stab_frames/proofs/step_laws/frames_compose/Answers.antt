use Rattle.stab_frames.proofs.StartLemmas.{by_frame-same, by_frame-over, by_frame-back}
use Rattle.stab_frames.proofs.step_laws.frames_compose.Goals as goal

pub returns : goal.returns
returns c = record { law = (by_frame-same, by_frame-over, by_frame-back) }
