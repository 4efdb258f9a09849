use Rattle.stab_error_model.proofs.Names.{◌+◌, ◌-◌, ◌*◌, ◌≤◌, drop, length, each_two_targets, HasFrom, IsUnderWay, target_single_errors}
use Rattle.stab_error_model.proofs.marked.add_pairs.Given as goal

abbrev pub invariant-pairs : goal.invariant-pairs
invariant-pairs l = record {
  within : l.k ≤ length l.qubits;
  way : IsUnderWay (HasFrom l.row (target_single_errors l.step l.qubits)) (each_two_targets l.letters l.step l.qubits) (each_two_targets l.letters (l.step + l.k) (drop l.k l.qubits))
      (l.row + 2 * l.k) (target_single_errors (l.step + l.k) (drop l.k l.qubits)) l.initial.errors.items l.errors.items;
}

abbrev pub decreases-pairs : goal.decreases-pairs
decreases-pairs l = length l.qubits - l.k
