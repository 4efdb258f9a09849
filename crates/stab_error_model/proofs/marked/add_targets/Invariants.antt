use Rattle.stab_error_model.proofs.Names.{◌+◌, ◌*◌, drop, each_target, HasFrom, IsUnderWay, target_single_errors}
use Rattle.stab_error_model.proofs.marked.add_targets.Given as goal

abbrev pub invariant-targets : goal.invariant-targets
invariant-targets l =
    IsUnderWay (HasFrom l.row (target_single_errors l.step l.qubits)) (each_target l.letters l.step l.qubits) (each_target l.letters (l.step + l.k) (drop l.k l.qubits))
    (l.row + 2 * l.k) (target_single_errors (l.step + l.k) (drop l.k l.qubits)) l.initial.errors.items l.errors.items
