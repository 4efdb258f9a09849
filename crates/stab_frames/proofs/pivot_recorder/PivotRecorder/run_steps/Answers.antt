use Rattle.stab_frames.proofs.Names.{◌≡◌, arith, ap, sym, ◌∙◌, subst, All, lookbacks_of, steps_shown, all_coins_of, program_state, output_of, coins-measured, LooksWithin, near-gates}
use Rattle.stab_frames.proofs.PivotsStepsLemmas.{pivots-unmeasured, coins-gates, coins-pairs, coins-detectors}
use Rattle.stab_frames.proofs.pivot_recorder.PivotRecorder.run_steps.Goals as goal

pub returns-in_ok-apply_steps-in-Gates-clause-recorded : goal.returns-in_ok-apply_steps-in-Gates-clause-recorded
returns-in_ok-apply_steps-in-Gates-clause-recorded g c =
    let is = sym (ap steps_shown c.in-Gates.is) in
    let window = c.args.self.now.window in
    let done = c.in_ok-apply_steps-in-Gates.ensures {u = tt} in
    record {
      counted = done.counted;
      asks_random = done.asks_random;
      pivots =
          pivots-unmeasured c.args.tableau.now.qubits (g.C.Coins.sequence c.args.coins.now) (steps_shown c.args.steps) window c.args.self.now.strings
          (program_state c.args.tableau.now (output_of c.args.outputs.now)) (program_state c.apply_steps.new.tableau (output_of c.apply_steps.new.outputs))
          (subst (λ xs. all_coins_of xs ≡ 0) is (coins-gates c.in-Gates.field-0 c.in-Gates.field-1.now))
          (subst (All (LooksWithin window)) is (near-gates window c.in-Gates.field-0 c.in-Gates.field-1.now)) done.run;
    }

pub returns-in_ok-apply_steps-in-Pairs-clause-recorded : goal.returns-in_ok-apply_steps-in-Pairs-clause-recorded
returns-in_ok-apply_steps-in-Pairs-clause-recorded g c =
    let is = sym (ap steps_shown c.in-Pairs.is) in
    let done = c.in_ok-apply_steps-in-Pairs.ensures {u = tt} in
    record {
      counted = done.counted;
      asks_random = done.asks_random;
      pivots =
          pivots-unmeasured c.args.tableau.now.qubits (g.C.Coins.sequence c.args.coins.now) (steps_shown c.args.steps) c.furthest-self.result c.args.self.now.strings
          (program_state c.args.tableau.now (output_of c.args.outputs.now)) (program_state c.apply_steps-in-Pairs.new.tableau (output_of c.apply_steps-in-Pairs.new.outputs))
          (subst (λ xs. all_coins_of xs ≡ 0) is (coins-pairs c.in-Pairs.field-0 c.in-Pairs.pairs.now))
          (subst (All (LooksWithin c.furthest-self.result)) is (c.furthest-self.ensures.within c.in-Pairs.field-0)) done.run;
    }

pub returns-in_ok-apply_steps-in-Detectors-clause-recorded : goal.returns-in_ok-apply_steps-in-Detectors-clause-recorded
returns-in_ok-apply_steps-in-Detectors-clause-recorded g c =
    let is = sym (ap steps_shown c.in-Detectors.is) in
    let window = c.furthest_detector-self.result in
    let done = c.in_ok-apply_steps-in-Detectors.ensures {u = tt} in
    record {
      counted = done.counted;
      asks_random = done.asks_random;
      pivots =
          pivots-unmeasured c.args.tableau.now.qubits (g.C.Coins.sequence c.args.coins.now) (steps_shown c.args.steps) window c.args.self.now.strings
          (program_state c.args.tableau.now (output_of c.args.outputs.now)) (program_state c.apply_steps-in-Detectors.new.tableau (output_of c.apply_steps-in-Detectors.new.outputs))
          (subst (λ xs. all_coins_of xs ≡ 0) is (coins-detectors (lookbacks_of c.in-Detectors.detectors)))
          (subst (All (LooksWithin window)) is c.furthest_detector-self.ensures.within) done.run;
    }

pub returns-in_ok-run_targets-in-Measurements-clause-asks : goal.returns-in_ok-run_targets-in-Measurements-clause-asks
returns-in_ok-run_targets-in-Measurements-clause-asks g c =
    let coins = ap all_coins_of (ap steps_shown c.in-Measurements.is) ∙ coins-measured c.in-Measurements.measurement c.in-Measurements.targets.now in
    omega (arith, c.run_targets.ensures.asks, coins)

pub returns-in_err-run_targets-in-Measurements-clause-asks : goal.returns-in_err-run_targets-in-Measurements-clause-asks
returns-in_err-run_targets-in-Measurements-clause-asks g c =
    let coins = ap all_coins_of (ap steps_shown c.in-Measurements.is) ∙ coins-measured c.in-Measurements.measurement c.in-Measurements.targets.now in
    omega (arith, c.run_targets.ensures.asks, coins)
