use Rattle.stab_circuit.proofs.Names.{split_alike}
use Rattle.stab_circuit.proofs.laws.splits_leave_the_steps.Goals as goal

pub returns : goal.returns
returns c = record { law = λ path round old new e. split_alike round path.blocks path.position old new e }
