use Rattle.stab_report.proofs.Names.{◌≡◌, ◌+◌, ◌++◌, length, map, unroll, circuit_items, single_errors_from, single_errors_of}
use Rattle.stab_report.specs.PlacedSingleErrors.{single_error_placed}
use Rattle.stab_report.proofs.single_error_list.placed_single_errors.Given as goal

abbrev pub invariant-steps : goal.invariant-steps
invariant-steps l = record {
  count : l.number + length l.cursor.left ≡ length (unroll (circuit_items l.circuit));
  single_errors : single_errors_of l.everywhere (unroll (circuit_items l.circuit)) ≡ map single_error_placed l.single_errors.items ++ single_errors_from l.everywhere l.number l.cursor.left;
}

abbrev pub decreases-steps : goal.decreases-steps
decreases-steps l = length l.cursor.left
