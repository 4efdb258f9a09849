use Rattle.stab_frames.proofs.EditLemmas.{fronts-flip}
use Rattle.stab_frames.proofs.run_laws.fronts_flip.Goals as goal

pub returns : goal.returns
returns c = record { law = fronts-flip }
