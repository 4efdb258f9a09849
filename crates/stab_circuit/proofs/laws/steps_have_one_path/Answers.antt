use Rattle.stab_circuit.proofs.Names.{length-paths}
use Rattle.stab_circuit.proofs.laws.steps_have_one_path.Goals as goal

pub returns : goal.returns
returns c = record { law = length-paths 0 }
