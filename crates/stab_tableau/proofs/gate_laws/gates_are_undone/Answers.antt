use Rattle.stab_tableau.proofs.SymmetryLemmas.{back-image, pair-undone}
use Rattle.stab_tableau.proofs.gate_laws.gates_are_undone.Goals as goal

pub returns : goal.returns
returns c = record { law = (back-image, pair-undone) }
