use Rattle.stab_circuit.proofs.KnownLineLemmas.{operation_good}
use Rattle.stab_circuit.proofs.reader.CircuitReader.take.Goals as goal

pub new-requires : goal.new-requires
new-requires c = record { good = operation_good c.args.found c.args.bytes.now c.in-Operation.operation c.in-Operation.is c.requires.whole c.requires.means }
