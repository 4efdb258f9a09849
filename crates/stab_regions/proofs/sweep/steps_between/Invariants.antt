use Rattle.stab_regions.proofs.Names.{◌≡◌, ◌-◌, ◌≤◌, length, take, drop, map, unroll, circuit_items, step_shown}
use Rattle.stab_regions.proofs.sweep.steps_between.Given as goal

abbrev pub invariant-steps : goal.invariant-steps
invariant-steps l = record {
  within : length l.steps.items ≤ l.end - l.begin;
  taken : map step_shown l.steps.items ≡ take (length l.steps.items) (drop l.begin (unroll (circuit_items l.circuit)));
  left : l.cursor.left ≡ drop (length l.steps.items) (drop l.begin (unroll (circuit_items l.circuit)));
}

abbrev pub decreases-steps : goal.decreases-steps
decreases-steps l = (l.end - l.begin) - length l.steps.items
