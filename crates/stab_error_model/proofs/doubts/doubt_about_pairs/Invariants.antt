use Rattle.stab_error_model.proofs.Names.{◌≡◌, ◌-◌, ◌≤◌, drop, length}
use Rattle.stab_error_model.specs.Doubts.{doubt_about_pairs}
use Rattle.stab_error_model.proofs.doubts.doubt_about_pairs.Given as goal

abbrev pub invariant-pairs : goal.invariant-pairs
invariant-pairs l = record {
  within : l.k ≤ length l.qubits;
  rest : doubt_about_pairs l.qubits ≡ doubt_about_pairs (drop l.k l.qubits);
}

abbrev pub decreases-pairs : goal.decreases-pairs
decreases-pairs l = length l.qubits - l.k
