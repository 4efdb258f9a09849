use Rattle.stab_run.proofs.Names.{◌≡◌, ℕ, Bool, map, take, controlled_step, RunOutput, IsRun, program_state}
use Rattle.stab_run.proofs.steps.apply_pairs.Given as goal

abbrev pub invariant-loop-pair : goal.invariant-loop-pair
invariant-loop-pair l = record {
  qubits : l.tableau.qubits ≡ l.initial.tableau.qubits;
  run : (coins : ℕ → Bool) (output : RunOutput) → output.records ≡ l.records
      → IsRun l.initial.tableau.qubits coins (map (controlled_step l.axis) (take l.pair-index l.pairs)) (program_state l.initial.tableau output) (program_state l.tableau output);
}
