use Rattle.stab_run.proofs.Names.{◌≡◌, ℕ, Bool, map, take, one, RunOutput, IsRun, program_state}
use Rattle.stab_run.proofs.steps.apply_gates.Given as goal

abbrev pub invariant-loop-qubit : goal.invariant-loop-qubit
invariant-loop-qubit l = record {
  qubits : l.tableau.qubits ≡ l.initial.tableau.qubits;
  run : (coins : ℕ → Bool) (output : RunOutput)
      → IsRun l.initial.tableau.qubits coins (map (one l.gate) (take l.qubit-index l.qubits)) (program_state l.initial.tableau output) (program_state l.tableau output);
}
