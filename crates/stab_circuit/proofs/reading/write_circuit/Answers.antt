use Rattle.stab_circuit.proofs.Names.{circuit_items}
use Rattle.stab_circuit.proofs.BackLemmas.{good_back}
use Rattle.stab_circuit.proofs.reading.write_circuit.Goals as goal

pub returns-clause-back : goal.returns-clause-back
returns-clause-back g c = good_back (circuit_items c.args.circuit.now) c.items.ensures.good c.items.ensures.shallow
