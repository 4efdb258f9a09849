use Rattle.stab_items.proofs.Names.{◌≡◌, ◌≤◌, length, drop, AreStretches, items_in}
use Rattle.stab_items.proofs.circuit.stretches.stretches_of.Given as goal

abbrev pub invariant-stretches : goal.invariant-stretches
invariant-stretches l = record {
  are : AreStretches l.all.items l.items;
  fits : items_in l.all.items ≤ length l.items;
  rest : l.rest ≡ drop (items_in l.all.items) l.items;
}

abbrev pub decreases-stretches : goal.decreases-stretches
decreases-stretches l = length l.rest
