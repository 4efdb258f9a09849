use Rattle.stab_items.proofs.Names.{◌≡◌, ◌≤◌, take, items_in}
use Rattle.stab_items.proofs.circuit.stretches.renew_stretch.Given as goal

abbrev pub invariant-stretches : goal.invariant-stretches
invariant-stretches l = record {
  first : l.first ≡ items_in (take l.number l.fn.stretches.items);
  before : l.first ≤ l.position;
  preserved : l.stretches.items ≡ l.fn.stretches.items;
}
