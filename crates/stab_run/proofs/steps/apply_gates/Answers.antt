use Rattle.stab_run.proofs.Names.{arith, rules, refl, ◌∙◌, stabilises, one, program_state}
use Rattle.stab_run.proofs.RunLemmas.{run-gate}
use Rattle.stab_run.proofs.TargetLemmas.{fits-target, run-target, run-targets}
use Rattle.stab_run.proofs.steps.apply_gates.Goals as goal

pub apply-requires : goal.apply-requires
apply-requires c =
    let fits =
    fits-target c.args.tableau.now.qubits c.loop-qubit.tableau.qubits (one c.args.gate) c.args.qubits.now c.loop-qubit.qubit-index c.qubit-item.result
    c.loop-qubit.invariant.qubits c.loop-qubit-test.true c.qubit-item.is c.requires.fits in
    record { in_range = omega arith }

pub loop-qubit-preserved : goal.loop-qubit-preserved
loop-qubit-preserved c = record {
  qubits = c.apply.ensures.qubits ∙ c.loop-qubit.invariant.qubits;
  run = λ coins output.
      run-target c.args.tableau.now.qubits c.args.tableau.now.qubits coins coins (one c.args.gate) c.args.qubits.now c.loop-qubit.qubit-index c.qubit-item.result
      (program_state c.args.tableau.now output) (program_state c.loop-qubit.tableau output) (program_state c.apply.new.self output)
      c.loop-qubit-test.true c.qubit-item.is refl refl (c.loop-qubit.invariant.run coins output)
      (run-gate c.args.tableau.now.qubits c.loop-qubit.tableau.qubits coins c.args.gate c.qubit-item.result (stabilises c.loop-qubit.tableau) (stabilises c.apply.new.self) output
      c.loop-qubit.invariant.qubits (search rules));
}

pub returns-clause-run : goal.returns-clause-run
returns-clause-run c = λ coins output.
    run-targets c.args.tableau.now.qubits coins (one c.args.gate) c.args.qubits.now c.loop-qubit.qubit-index
    (program_state c.args.tableau.now output) (program_state c.loop-qubit.tableau output) c.loop-qubit-test.false (c.loop-qubit.invariant.run coins output)
