use Rattle.stab_error_model.proofs.Names.{◌≡◌, ◌+◌, drop, length, map, [], false, flat_map, unroll, circuit_items, single_errors_of, errors_marked, HasFrom, IsUnderWay, marks_shown, marked_single_errors}
use Rattle.stab_error_model.proofs.marked.errors_marked.Given as goal

abbrev pub invariant-marks : goal.invariant-marks
invariant-marks l = record {
  rows : l.row + length (flat_map marked_single_errors (map marks_shown (drop l.k l.all.items))) ≡ l.single_errors;
  way : IsUnderWay (HasFrom 0 (single_errors_of false (unroll (circuit_items l.circuit)))) (flat_map (errors_marked l.letters) (map marks_shown l.all.items))
      (flat_map (errors_marked l.letters) (map marks_shown (drop l.k l.all.items))) l.row (flat_map marked_single_errors (map marks_shown (drop l.k l.all.items))) [] l.errors.items;
}
