use Rattle.stab_frames.proofs.Names.{◌≡◌, arith, true, false, refl, sym, ◌∙◌, [], ◌∷◌, All-nil, All-cons, step_shown, program_state, output_of, LooksWithin}
use Rattle.stab_frames.proofs.PivotsStepsLemmas.{pivots-full, pivots-pivoted}
use Rattle.stab_frames.proofs.pivot_recorder.PivotRecorder.run_step.Goals as goal

pub returns-then-is_full-clause-recorded : goal.returns-then-is_full-clause-recorded
returns-then-is_full-clause-recorded g c =
    let done = c.in_ok-apply_step.ensures {u = tt} in
    let following = c.apply_step.new in
    record {
      counted = omega (arith, c.apply_step.ensures.counted);
      asks_random = done.asks_random;
      pivots =
          pivots-full c.args.tableau.now.qubits (g.C.Coins.sequence c.args.coins.now) (step_shown c.args.step ∷ []) c.furthest_of-self.result c.args.self.now.strings
          (program_state c.args.tableau.now (output_of c.args.outputs.now)) (program_state following.tableau (output_of following.outputs))
          (c.is_full.ensures.value.0 c.if-is_full.true) (All-cons (LooksWithin c.furthest_of-self.result) (step_shown c.args.step) [] c.furthest_of-self.ensures.within
          (All-nil (LooksWithin c.furthest_of-self.result))) done.run;
    }

pub returns-in_ok-push-clause-recorded : goal.returns-in_ok-push-clause-recorded
returns-in_ok-push-clause-recorded g c =
    let done = c.in_ok-free.ensures in
    let stored = c.in_ok-push.ensures in
    let following = c.apply_step_with_pivot.new in
    record {
      counted = omega (arith, c.apply_step_with_pivot.ensures.counted);
      asks_random = done.asks_random;
      pivots =
          pivots-pivoted c.args.tableau.now.qubits (g.C.Coins.sequence c.args.coins.now) (step_shown c.args.step) c.furthest_of-self.result c.in_ok-free.free following.pivot.letters
          c.args.self.now.strings c.push.new.self (program_state c.args.tableau.now (output_of c.args.outputs.now)) (program_state following.tableau (output_of following.outputs))
          done.run (λ e. stored.strings) (λ e. let not : true ≡ false = sym c.if-free.true ∙ e in cc) stored.most c.furthest_of-self.ensures.within;
    }

pub returns-else-free-clause-recorded : goal.returns-else-free-clause-recorded
returns-else-free-clause-recorded g c =
    let done = c.in_ok-free.ensures in
    let following = c.apply_step_with_pivot.new in
    record {
      counted = omega (arith, c.apply_step_with_pivot.ensures.counted);
      asks_random = done.asks_random;
      pivots =
          pivots-pivoted c.args.tableau.now.qubits (g.C.Coins.sequence c.args.coins.now) (step_shown c.args.step) c.furthest_of-self.result c.in_ok-free.free following.pivot.letters
          c.args.self.now.strings c.args.self.now.strings (program_state c.args.tableau.now (output_of c.args.outputs.now)) (program_state following.tableau (output_of following.outputs))
          done.run (λ e. let not : true ≡ false = sym e ∙ c.if-free.false in cc) (λ e. refl) refl c.furthest_of-self.ensures.within;
    }
