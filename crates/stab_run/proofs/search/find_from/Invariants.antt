use Rattle.stab_run.proofs.Names.{◌≤◌, length, unroll, circuit_items}
use Rattle.stab_run.proofs.search.find_from.Given as goal

abbrev pub invariant-positions : goal.invariant-positions
invariant-positions l = record {
  order : l.first ≤ l.position;
  within : l.position ≤ length (unroll (circuit_items l.circuit));
}
