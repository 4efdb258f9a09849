use Rattle.stab_run.proofs.Names.{refl, ◌∙◌, controlled_step, program_state}
use Rattle.stab_run.proofs.TargetLemmas.{fits-target, run-target, run-targets}
use Rattle.stab_run.proofs.steps.apply_pairs.Goals as goal

pub apply_pair-requires : goal.apply_pair-requires
apply_pair-requires c = record {
  fits =
      fits-target c.args.tableau.now.qubits c.loop-pair.tableau.qubits (controlled_step c.args.axis) c.args.pairs.now c.loop-pair.pair-index c.pair-item.result
      c.loop-pair.invariant.qubits c.loop-pair-test.true c.pair-item.is c.requires.fits;
}

pub loop-pair-preserved : goal.loop-pair-preserved
loop-pair-preserved c = record {
  qubits = c.apply_pair.ensures.qubits ∙ c.loop-pair.invariant.qubits;
  run = λ coins output same_records.
      run-target c.args.tableau.now.qubits c.loop-pair.tableau.qubits coins coins (controlled_step c.args.axis) c.args.pairs.now c.loop-pair.pair-index c.pair-item.result
      (program_state c.args.tableau.now output) (program_state c.loop-pair.tableau output) (program_state c.apply_pair.new.tableau output)
      c.loop-pair-test.true c.pair-item.is c.loop-pair.invariant.qubits refl (c.loop-pair.invariant.run coins output same_records)
      (c.apply_pair.ensures.run coins output same_records);
}

pub returns-clause-run : goal.returns-clause-run
returns-clause-run c = λ coins output same_records.
    run-targets c.args.tableau.now.qubits coins (controlled_step c.args.axis) c.args.pairs.now c.loop-pair.pair-index
    (program_state c.args.tableau.now output) (program_state c.loop-pair.tableau output) c.loop-pair-test.false
    (c.loop-pair.invariant.run coins output same_records)
