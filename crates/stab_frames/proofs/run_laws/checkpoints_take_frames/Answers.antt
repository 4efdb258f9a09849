use Rattle.stab_frames.proofs.EditLemmas.{copies-conjugate}
use Rattle.stab_frames.proofs.run_laws.checkpoints_take_frames.Goals as goal

pub returns : goal.returns
returns c = record { law = copies-conjugate }
