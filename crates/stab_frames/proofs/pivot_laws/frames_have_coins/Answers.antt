use Rattle.stab_frames.proofs.PropagatedCoinLemmas.{frame-coins}
use Rattle.stab_frames.proofs.pivot_laws.frames_have_coins.Goals as goal

pub returns : goal.returns
returns c = record { law = frame-coins }
