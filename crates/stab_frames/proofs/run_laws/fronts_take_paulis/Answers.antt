use Rattle.stab_frames.proofs.EditLemmas.{fronts-take-paulis}
use Rattle.stab_frames.proofs.run_laws.fronts_take_paulis.Goals as goal

pub returns : goal.returns
returns c = record { law = fronts-take-paulis }
