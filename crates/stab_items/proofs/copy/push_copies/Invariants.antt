use Rattle.stab_items.proofs.Names.{◌≡◌, ◌≤◌, ◌++◌, take, drop}
use Rattle.stab_items.proofs.copy.push_copies.Given as goal

abbrev pub invariant-loop-position : goal.invariant-loop-position
invariant-loop-position l = record {
  begun : l.first ≤ l.position;
  same : l.items.items ≡ l.initial.items.items ++ drop l.first (take l.position l.initial.items.items);
}
