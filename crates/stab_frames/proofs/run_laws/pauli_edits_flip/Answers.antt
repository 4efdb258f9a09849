use Rattle.stab_frames.proofs.EditLemmas.{paulis-flip}
use Rattle.stab_frames.proofs.run_laws.pauli_edits_flip.Goals as goal

pub returns : goal.returns
returns c = record { law = paulis-flip }
