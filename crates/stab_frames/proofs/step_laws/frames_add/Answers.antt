use Rattle.stab_frames.proofs.SumLemmas.{frames-add}
use Rattle.stab_frames.proofs.step_laws.frames_add.Goals as goal

pub returns : goal.returns
returns c = record { law = frames-add }
