use Rattle.stab_frames.proofs.EndLemmas.{by_frame-end}
use Rattle.stab_frames.proofs.step_laws.frames_end.Goals as goal

pub returns : goal.returns
returns c = record { law = by_frame-end }
