use Rattle.stab_items.proofs.Names.{◌≡◌, ◌<◌, ◌≤◌, ◌+◌, length, take, drop, listed, depth, unroll, most_steps, paths_from, item_steps_left}
use Rattle.stab_items.proofs.StepPathLemmas.{Reached}
use Rattle.stab_items.proofs.circuit.step_items.item_within.Given as goal

abbrev pub invariant-levels : goal.invariant-levels
invariant-levels l = record {
  few : length (unroll (listed l.items)) ≤ most_steps;
  shallow : l.depth + depth (listed l.items) ≤ 16;
  room : length l.positions ≡ 17;
  in_range : l.found.position < length l.items;
  within : l.found.within + length (unroll (listed (drop (l.found.position + 1) l.items))) < length (unroll (listed (drop l.found.position l.items)));
  left : item_steps_left (listed (drop l.found.position l.items)) l.found.within ≡ item_steps_left (listed (drop l.fn.first.position l.fn.items)) l.fn.first.within;
  reached : Reached (drop l.fn.first.within (paths_from l.fn.first.position (listed (drop l.fn.first.position l.fn.items)))) (take l.depth l.positions) l.items l.found.position l.found.within;
}

abbrev pub decreases-levels : goal.decreases-levels
decreases-levels l = depth (listed l.items)
