use Rattle.stab_frames.proofs.Names.{◌≡◌, ◌-◌, ◌++◌, take, replicate, I, stabilises, IsConjugated}
use Rattle.stab_frames.proofs.conjugated_states.apply_frame_to.Given as goal

abbrev pub invariant-loop-qubit : goal.invariant-loop-qubit
invariant-loop-qubit l = record {
  qubits : l.state.qubits ≡ l.initial.state.qubits;
  conjugated : IsConjugated l.initial.state.qubits (take l.qubit l.letters ++ replicate (l.initial.state.qubits - l.qubit) I) (stabilises l.initial.state) (stabilises l.state);
}
