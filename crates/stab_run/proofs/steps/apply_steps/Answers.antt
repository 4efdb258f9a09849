use Rattle.stab_run.proofs.Names.{ap, sym, subst, OnOk, steps_shown, IsRun, CostsAtMost, program_state, output_of}
use Rattle.stab_run.proofs.steps.apply_steps.Goals as goal

pub returns-in-Gates-clause-run : goal.returns-in-Gates-clause-run
returns-in-Gates-clause-run g c =
    subst (λ xs. IsRun c.args.tableau.now.qubits (g.C.Coins.sequence c.args.coins.now) xs
    (program_state c.args.tableau.now (output_of c.args.outputs.now)) (program_state c.apply_gates.new.tableau (output_of c.args.outputs.now)))
    (sym (ap steps_shown c.in-Gates.is)) (c.apply_gates.ensures.run (g.C.Coins.sequence c.args.coins.now) (output_of c.args.outputs.now))

pub returns-in-Pairs-clause-run : goal.returns-in-Pairs-clause-run
returns-in-Pairs-clause-run g c =
    subst (λ xs. IsRun c.args.tableau.now.qubits (g.C.Coins.sequence c.args.coins.now) xs
    (program_state c.args.tableau.now (output_of c.args.outputs.now)) (program_state c.apply_pairs.new.tableau (output_of c.args.outputs.now)))
    (sym (ap steps_shown c.in-Pairs.is))
    (c.apply_pairs.ensures.run (g.C.Coins.sequence c.args.coins.now) (output_of c.args.outputs.now) (sym c.as_slice.ensures.value))

pub returns-in-Measurements-clause-costs : goal.returns-in-Measurements-clause-costs
returns-in-Measurements-clause-costs g c =
    subst (λ xs. CostsAtMost xs c.args.applied.now c.measure_targets.new.applied (g.C.Coins.asks c.args.coins.now) (g.C.Coins.asks c.measure_targets.new.coins))
    (sym (ap steps_shown c.in-Measurements.is)) c.measure_targets.ensures.costs

pub returns-in-Measurements-clause-run : goal.returns-in-Measurements-clause-run
returns-in-Measurements-clause-run g c =
    subst (λ xs. OnOk c.measure_targets.result (IsRun c.args.tableau.now.qubits (g.C.Coins.sequence c.args.coins.now) xs
    (program_state c.args.tableau.now (output_of c.args.outputs.now)) (program_state c.measure_targets.new.tableau (output_of c.measure_targets.new.outputs))))
    (sym (ap steps_shown c.in-Measurements.is)) c.measure_targets.ensures.run

pub returns-in_ok-take_parities-in-Detectors-clause-run : goal.returns-in_ok-take_parities-in-Detectors-clause-run
returns-in_ok-take_parities-in-Detectors-clause-run g c =
    subst (λ xs. IsRun c.args.tableau.now.qubits (g.C.Coins.sequence c.args.coins.now) xs
    (program_state c.args.tableau.now (output_of c.args.outputs.now)) (program_state c.args.tableau.now (output_of c.take_parities.new.outputs)))
    (sym (ap steps_shown c.in-Detectors.is)) ((c.in_ok-take_parities-in-Detectors.ensures {u = tt}).run c.args.tableau.now (g.C.Coins.sequence c.args.coins.now))
