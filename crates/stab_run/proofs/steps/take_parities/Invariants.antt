use Rattle.stab_run.proofs.Names.{◌≡◌, ℕ, Bool, map, take, TableauState, detector, lookbacks_of, IsRun, program_state, output_of}
use Rattle.stab_run.proofs.steps.take_parities.Given as goal

abbrev pub invariant-loop-position : goal.invariant-loop-position
invariant-loop-position l = record {
  free : l.outputs.free ≡ l.initial.outputs.free;
  run : (tableau : TableauState) (coins : ℕ → Bool)
      → IsRun tableau.qubits coins (map detector (take l.position (lookbacks_of l.detectors))) (program_state tableau (output_of l.initial.outputs)) (program_state tableau (output_of l.outputs));
}
