use Rattle.stab_frames.proofs.EditLemmas.{fronts-go-on}
use Rattle.stab_frames.proofs.run_laws.fronts_go_on.Goals as goal

pub returns : goal.returns
returns c = record { law = fronts-go-on }
