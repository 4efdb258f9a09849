use Rattle.stab_run.proofs.Names.{◌≡◌, ◌≤◌, length, drop, unroll, circuit_items}
use Rattle.stab_run.proofs.search.next_position.Given as goal

abbrev pub invariant-going : goal.invariant-going
invariant-going l = record {
  order : l.first ≤ l.position;
  within : l.position ≤ length (unroll (circuit_items l.circuit));
  left : l.cursor.left ≡ drop l.position (unroll (circuit_items l.circuit));
}

abbrev pub decreases-going : goal.decreases-going
decreases-going l = length l.cursor.left
