use Rattle.stab_items.proofs.Names.{length}
use Rattle.stab_items.proofs.circuit.Circuit.+put_before.Given as goal

abbrev pub decreases-put_before : goal.decreases-put_before
decreases-put_before l = length l.parts.items
