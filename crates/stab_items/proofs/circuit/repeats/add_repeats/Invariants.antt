use Rattle.stab_items.proofs.Names.{◌≡◌, ◌+◌, ◌++◌, length, drop, listed, unroll, repeats_in}
use Rattle.stab_items.proofs.circuit.repeats.add_repeats.Given as goal

abbrev pub invariant-items : goal.invariant-items
invariant-items l = record {
  steps : l.first + length (unroll (listed (drop l.item-index l.items))) ≡ l.fn.first + length (unroll (listed l.items));
  same : l.repeats.items ++ repeats_in l.first (drop l.item-index l.items) ≡ l.fn.repeats.items ++ repeats_in l.fn.first l.items;
}
