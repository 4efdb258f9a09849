use Rattle.stab_error_model.proofs.Names.{◌≡◌, ◌+◌, ◌≤◌, length, [], true, unroll, circuit_items, single_errors_from, single_errors_of, errors_from, HasFrom, IsUnderWay}
use Rattle.stab_error_model.proofs.everywhere.errors_everywhere.Given as goal

abbrev pub invariant-steps : goal.invariant-steps
invariant-steps l = record {
  count : l.number + length l.cursor.left ≡ length (unroll (circuit_items l.circuit));
  records : l.records ≤ l.number;
  rows : l.row + length (single_errors_from true l.number l.cursor.left) ≡ l.single_errors;
  way : IsUnderWay (HasFrom 0 (single_errors_of true (unroll (circuit_items l.circuit)))) (errors_from l.letters 0 0 (unroll (circuit_items l.circuit)))
      (errors_from l.letters l.number l.records l.cursor.left) l.row (single_errors_from true l.number l.cursor.left) [] l.errors.items;
}

abbrev pub decreases-steps : goal.decreases-steps
decreases-steps l = length l.cursor.left
