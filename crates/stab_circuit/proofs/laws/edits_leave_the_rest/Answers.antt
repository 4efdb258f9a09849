use Rattle.stab_circuit.proofs.Names.{edits_leave}
use Rattle.stab_circuit.proofs.laws.edits_leave_the_rest.Goals as goal

pub returns : goal.returns
returns c = record { law = edits_leave }
