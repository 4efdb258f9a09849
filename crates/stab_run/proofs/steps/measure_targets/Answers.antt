use Rattle.stab_run.proofs.Names.{arith, ap, sym, subst, ◌∙◌, ◌∷◌, [], measured, coins_of, StepFits, IsRun, program_state, output_of}
use Rattle.stab_run.proofs.TargetLemmas.{fits-target, run-target, run-targets, costs-measured}
use Rattle.stab_run.proofs.steps.measure_targets.Goals as goal

pub apply_step-requires-clause-same_length : goal.apply_step-requires-clause-same_length
apply_step-requires-clause-same_length g c = c.loop-target.invariant.string ∙ c.requires.same_length ∙ sym c.loop-target.invariant.qubits

pub apply_step-requires-clause-fits : goal.apply_step-requires-clause-fits
apply_step-requires-clause-fits g c =
    subst (StepFits c.loop-target.tableau.qubits) (sym c.measured_step-step.ensures.value)
    (fits-target c.args.tableau.now.qubits c.loop-target.tableau.qubits (measured c.args.measurement) c.args.targets.now c.loop-target.target-index c.target-item.result
    c.loop-target.invariant.qubits c.loop-target-test.true c.target-item.is c.requires.fits)

pub apply_step-requires-clause-few : goal.apply_step-requires-clause-few
apply_step-requires-clause-few g c = omega (arith, c.loop-target.invariant.counted, c.requires.few, c.loop-target-test.true)

pub loop-target-preserved : goal.loop-target-preserved
loop-target-preserved g c =
    let inv = c.loop-target.invariant in
    let done = c.in_ok-apply_step.ensures {u = tt} in
    let then = program_state c.apply_step.new.tableau (output_of c.apply_step.new.outputs) in
    record {
      counted = omega (arith, done.counted, inv.counted);
      qubits = done.qubits ∙ inv.qubits;
      string = done.string ∙ inv.string;
      same_coins = done.same_coins ∙ inv.same_coins;
      asks = omega (arith, ap coins_of c.measured_step-step.ensures.value, done.asks, inv.asks);
      asks_random = omega (arith, done.asks_random, inv.asks_random);
      run =
          run-target c.args.tableau.now.qubits c.loop-target.tableau.qubits (g.C.Coins.sequence c.args.coins.now) (g.C.Coins.sequence c.loop-target.coins)
          (measured c.args.measurement) c.args.targets.now c.loop-target.target-index c.target-item.result
          (program_state c.args.tableau.now (output_of c.args.outputs.now)) (program_state c.loop-target.tableau (output_of c.loop-target.outputs)) then
          c.loop-target-test.true c.target-item.is inv.qubits inv.same_coins inv.run
          (subst (λ x. IsRun c.loop-target.tableau.qubits (g.C.Coins.sequence c.loop-target.coins) (x ∷ [])
          (program_state c.loop-target.tableau (output_of c.loop-target.outputs)) then) c.measured_step-step.ensures.value done.run);
    }

pub returns-clause-run : goal.returns-clause-run
returns-clause-run g c =
    run-targets c.args.tableau.now.qubits (g.C.Coins.sequence c.args.coins.now) (measured c.args.measurement) c.args.targets.now c.loop-target.target-index
    (program_state c.args.tableau.now (output_of c.args.outputs.now)) (program_state c.loop-target.tableau (output_of c.loop-target.outputs))
    c.loop-target-test.false c.loop-target.invariant.run

pub returns-clause-costs : goal.returns-clause-costs
returns-clause-costs g c =
    let inv = c.loop-target.invariant in
    costs-measured c.args.measurement c.args.targets.now _ _ _ _ (omega arith) (omega arith) (omega arith)

pub returns-in_err-apply_step-clause-costs : goal.returns-in_err-apply_step-clause-costs
returns-in_err-apply_step-clause-costs g c =
    let inv = c.loop-target.invariant in
    let one = ap coins_of c.measured_step-step.ensures.value in
    costs-measured c.args.measurement c.args.targets.now _ _ _ _ (omega arith) (omega (arith, one)) (omega (arith, one))
