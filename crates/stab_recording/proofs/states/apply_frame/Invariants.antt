use Rattle.stab_recording.proofs.Names.{◌≡◌, ◌-◌, ◌++◌, take, replicate, I, stabilises, IsConjugated}
use Rattle.stab_recording.proofs.states.apply_frame.Given as goal

abbrev pub invariant-loop-qubit : goal.invariant-loop-qubit
invariant-loop-qubit l = record {
  qubits : l.tableau.qubits ≡ l.initial.tableau.qubits;
  conjugated : IsConjugated l.initial.tableau.qubits (take l.qubit l.letters ++ replicate (l.initial.tableau.qubits - l.qubit) I) (stabilises l.initial.tableau) (stabilises l.tableau);
}
