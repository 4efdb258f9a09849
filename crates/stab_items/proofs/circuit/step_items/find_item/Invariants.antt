use Rattle.stab_items.proofs.Names.{◌≡◌, ◌<◌, ◌+◌, ◌-◌, length, take, drop, listed, unroll, paths_from, item_steps_left}
use Rattle.stab_items.proofs.circuit.step_items.find_item.Given as goal

abbrev pub invariant-items : goal.invariant-items
invariant-items l = record {
  in_range : l.found.within < length (unroll (listed (drop l.found.position l.items)));
  same : drop l.found.within (paths_from l.found.position (listed (drop l.found.position l.items))) ≡ drop l.step (paths_from l.position (listed (drop l.position l.items)));
  steps : length (unroll (listed (take l.found.position l.items))) + l.found.within ≡ length (unroll (listed (take l.position l.items))) + l.step;
  left : item_steps_left (listed (drop l.found.position l.items)) l.found.within ≡ item_steps_left (listed (drop l.position l.items)) l.step;
}

abbrev pub decreases-items : goal.decreases-items
decreases-items l = length l.items - l.found.position
