use Rattle.stab_items.proofs.Names.{◌≡◌, copies}
use Rattle.stab_items.proofs.circuit.gaps.copies.Given as goal

abbrev pub invariant-loop : goal.invariant-loop
invariant-loop l = l.all.items ≡ copies l.counter l.numbers
