use Rattle.stab_frames.proofs.Names.{arith, ap, sym, subst, ◌∙◌, ◌∷◌, [], map, measured, coins_of, StepFits, program_state, output_of, fits-target, coins-measured, near-targets, length-map, AreOnQubits, PivotsSteps}
use Rattle.stab_frames.proofs.PivotsStepsLemmas.{pivots-full, pivots-target, pivots-targets}
use Rattle.stab_frames.proofs.pivot_recorder.PivotRecorder.run_targets.Goals as goal

pub returns-in_err-apply_steps-clause-asks : goal.returns-in_err-apply_steps-clause-asks
returns-in_err-apply_steps-clause-asks g c = omega (arith, c.apply_steps.ensures.costs.asks, coins-measured c.args.measurement c.args.targets.now)

pub returns-then-is_full-clause-asks : goal.returns-then-is_full-clause-asks
returns-then-is_full-clause-asks g c = omega (arith, c.apply_steps.ensures.costs.asks, coins-measured c.args.measurement c.args.targets.now)

pub returns-then-is_full-clause-recorded : goal.returns-then-is_full-clause-recorded
returns-then-is_full-clause-recorded g c =
    let done = c.in_ok-apply_steps.ensures {u = tt} in
    let following = c.apply_steps.new in
    record {
      counted = done.counted;
      asks_random = done.asks_random;
      pivots =
          pivots-full c.args.tableau.now.qubits (g.C.Coins.sequence c.args.coins.now) (map (measured c.args.measurement) c.args.targets.now) c.args.self.now.window
          c.args.self.now.strings (program_state c.args.tableau.now (output_of c.args.outputs.now)) (program_state following.tableau (output_of following.outputs))
          (c.is_full.ensures.value.0 c.if-is_full.true) (near-targets c.args.self.now.window c.args.measurement c.args.targets.now) done.run;
    }

pub run_step-requires-clause-sized : goal.run_step-requires-clause-sized
run_step-requires-clause-sized g c =
    subst (λ n. AreOnQubits n c.loop-target.string c.loop-target.self) (sym c.loop-target.invariant.qubits) c.loop-target.invariant.sized

pub run_step-requires-clause-fits : goal.run_step-requires-clause-fits
run_step-requires-clause-fits g c =
    subst (StepFits c.loop-target.tableau.qubits) (sym c.measured_step-step.ensures.value)
    (fits-target c.args.tableau.now.qubits c.loop-target.tableau.qubits (measured c.args.measurement) c.args.targets.now c.loop-target.target-index c.target-item.result
    c.loop-target.invariant.qubits c.loop-target-test.true c.target-item.is c.requires.fits)

pub run_step-requires-clause-few : goal.run_step-requires-clause-few
run_step-requires-clause-few g c = omega (arith, c.loop-target.invariant.counted, c.requires.few, c.loop-target-test.true)

pub loop-target-preserved : goal.loop-target-preserved
loop-target-preserved g c =
    let inv = c.loop-target.invariant in
    let done = c.in_ok-run_step.ensures {u = tt} in
    let now = program_state c.loop-target.tableau (output_of c.loop-target.outputs) in
    let then = program_state c.run_step.new.tableau (output_of c.run_step.new.outputs) in
    record {
      counted = omega (arith, done.recorded.counted, inv.counted);
      qubits = done.qubits ∙ inv.qubits;
      sized = subst (λ n. AreOnQubits n c.run_step.new.string c.run_step.new.self) inv.qubits done.sized;
      same_coins = done.same_coins ∙ inv.same_coins;
      asks = omega (arith, ap coins_of c.measured_step-step.ensures.value, done.asks, inv.asks);
      asks_random = omega (arith, done.recorded.asks_random, inv.asks_random);
      no_less = record { most = done.no_less.most ∙ inv.no_less.most; raised = omega (arith, done.no_less.raised, inv.no_less.raised) };
      has_pivots =
          pivots-target c.args.tableau.now.qubits c.loop-target.tableau.qubits (g.C.Coins.sequence c.args.coins.now) (g.C.Coins.sequence c.loop-target.coins)
          (measured c.args.measurement) c.args.targets.now c.loop-target.target-index c.target-item.result c.loop-target.self.window c.run_step.new.self.window
          c.args.self.now.strings c.loop-target.self.strings c.run_step.new.self.strings
          (program_state c.args.tableau.now (output_of c.args.outputs.now)) now then
          c.loop-target-test.true c.target-item.is inv.qubits inv.same_coins done.no_less.raised inv.has_pivots
          (subst (λ x. PivotsSteps c.loop-target.tableau.qubits (g.C.Coins.sequence c.loop-target.coins) (x ∷ []) c.run_step.new.self.window c.loop-target.self.strings
          c.run_step.new.self.strings now then) c.measured_step-step.ensures.value done.recorded.pivots);
    }

pub returns-clause-recorded : goal.returns-clause-recorded
returns-clause-recorded g c =
    let inv = c.loop-target.invariant in
    record {
      counted = omega (arith, length-map c.args.targets.now (measured c.args.measurement));
      asks_random = inv.asks_random;
      pivots =
          pivots-targets c.args.tableau.now.qubits (g.C.Coins.sequence c.args.coins.now) (measured c.args.measurement) c.args.targets.now c.loop-target.target-index
          c.loop-target.self.window c.args.self.now.strings c.loop-target.self.strings
          (program_state c.args.tableau.now (output_of c.args.outputs.now)) (program_state c.loop-target.tableau (output_of c.loop-target.outputs))
          c.loop-target-test.false inv.has_pivots;
    }
