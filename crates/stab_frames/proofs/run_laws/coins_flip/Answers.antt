use Rattle.stab_frames.proofs.EditLemmas.{coins-flip}
use Rattle.stab_frames.proofs.run_laws.coins_flip.Goals as goal

pub returns : goal.returns
returns c = record { law = coins-flip }
