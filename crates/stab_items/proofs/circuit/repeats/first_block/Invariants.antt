use Rattle.stab_items.proofs.Names.{◌≡◌, drop, listed, first_with_steps}
use Rattle.stab_items.proofs.circuit.repeats.first_block.Given as goal

abbrev pub invariant-loop-item : goal.invariant-loop-item
invariant-loop-item l = record {
  same : first_with_steps (listed (drop l.item-index l.items)) ≡ first_with_steps (listed l.items);
}
