use Rattle.stab_recording.proofs.Names.{◌-◌, arith, refl, ap, sym, subst, ◌∙◌, length, take, length-append, steps_shown, all_coins_of, program_state, output_of, fits-steps, take-steps, drop-steps, take-none, drop-none, take-empty, drop-empty, coins-append, pivots-all, pivots-steps, AreOnQubits}
use Rattle.stab_recording.proofs.recorded_steps.run_recording_pivots.Goals as goal

pub run_steps-requires-clause-sized : goal.run_steps-requires-clause-sized
run_steps-requires-clause-sized g c =
    subst (λ n. AreOnQubits n c.loop-left.string c.loop-left.pivots) (sym c.loop-left.invariant.qubits) c.loop-left.invariant.sized

pub run_steps-requires-clause-fits : goal.run_steps-requires-clause-fits
run_steps-requires-clause-fits g c =
    (fits-steps c.loop-left.tableau.qubits c.loop-left.tableau.qubits c.loop-left.cursor.left (steps_shown c.in-Some.steps) c.next_steps.new.self.left
    c.in-Some.ensures.some refl c.loop-left.invariant.fits).0

pub run_steps-requires-clause-few : goal.run_steps-requires-clause-few
run_steps-requires-clause-few g c =
    let parts = ap length c.in-Some.ensures.some ∙ length-append (steps_shown c.in-Some.steps) c.next_steps.new.self.left in
    omega (arith, parts, c.loop-left.invariant.few, c.requires.few)

pub loop-left-smaller : goal.loop-left-smaller
loop-left-smaller g c = omega (arith, c.in-Some.ensures.within, c.len-left.ensures.value)

pub loop-left-preserved : goal.loop-left-preserved
loop-left-preserved g c =
    let inv = c.loop-left.invariant in
    let more = c.in-Some.ensures.some in
    let done = c.in_ok-run_steps.ensures {u = tt} in
    let shown = steps_shown c.in-Some.steps in
    let left = c.loop-left.left in
    let count = c.len-left.result in
    let before = c.loop-left.cursor.left in
    let following = c.next_steps.new.self.left in
    let front = take-steps left count before shown following more c.len-left.ensures.value c.in-Some.ensures.within.1 in
    let then = take (left - count) following in
    let parts = ap length more ∙ length-append shown following in
    let taken = ap length front ∙ length-append shown then in
    let asked = ap all_coins_of front ∙ coins-append shown then in
    record {
      fits = (fits-steps c.loop-left.tableau.qubits c.run_steps.new.tableau.qubits before shown following more done.qubits inv.fits).1;
      few = omega (arith, parts, done.recorded.counted, inv.few);
      counted = omega (arith, taken, done.recorded.counted, inv.counted);
      rest = sym (drop-steps left count before shown following more c.len-left.ensures.value c.in-Some.ensures.within.1) ∙ inv.rest;
      all = c.next_steps.ensures.all ∙ inv.all;
      qubits = done.qubits ∙ inv.qubits;
      sized = subst (λ n. AreOnQubits n c.run_steps.new.string c.run_steps.new.self) inv.qubits done.sized;
      same_coins = done.same_coins ∙ inv.same_coins;
      asks = omega (arith, asked, done.asks, inv.asks);
      asks_random = omega (arith, done.recorded.asks_random, inv.asks_random);
      no_less = record { most = done.no_less.most ∙ inv.no_less.most; raised = omega (arith, done.no_less.raised, inv.no_less.raised) };
      has_pivots = λ window new preserved le rest. inv.has_pivots window new preserved (omega (arith, done.no_less.raised, le))
          (pivots-steps c.args.tableau.now.qubits c.loop-left.tableau.qubits (g.C.Coins.sequence c.args.coins.now) (g.C.Coins.sequence c.loop-left.coins)
          (take left before) shown then c.run_steps.new.self.window window c.loop-left.pivots.strings c.run_steps.new.self.strings preserved
          (program_state c.loop-left.tableau (output_of c.loop-left.outputs)) (program_state c.run_steps.new.tableau (output_of c.run_steps.new.outputs)) new
          front inv.qubits inv.same_coins le done.recorded.pivots rest);
    }

pub returns-clause-recorded : goal.returns-clause-recorded
returns-clause-recorded g c =
    let inv = c.loop-left.invariant in
    let none = take-none c.loop-left.left c.loop-left.cursor.left c.loop-left-test.false in
    record {
      left = sym (drop-none c.loop-left.left c.loop-left.cursor.left c.loop-left-test.false) ∙ inv.rest;
      done = record { counted = omega (arith, ap length none, inv.counted); asks_random = inv.asks_random; pivots = pivots-all none inv.has_pivots };
    }

pub returns-clause-asks : goal.returns-clause-asks
returns-clause-asks g c = omega (arith, c.loop-left.invariant.asks)

pub returns-in_default-clause-recorded : goal.returns-in_default-clause-recorded
returns-in_default-clause-recorded g c =
    let inv = c.loop-left.invariant in
    let empty = c.in_default.ensures.none in
    let none = take-empty c.loop-left.left c.loop-left.cursor.left empty.0 in
    record {
      left = empty.1 ∙ sym (drop-empty c.loop-left.left c.loop-left.cursor.left empty.0) ∙ inv.rest;
      done = record { counted = omega (arith, ap length none, inv.counted); asks_random = inv.asks_random; pivots = pivots-all none inv.has_pivots };
    }

pub returns-in_default-clause-asks : goal.returns-in_default-clause-asks
returns-in_default-clause-asks g c = omega (arith, c.loop-left.invariant.asks)

pub returns-in_err-run_steps-clause-asks : goal.returns-in_err-run_steps-clause-asks
returns-in_err-run_steps-clause-asks g c =
    let shown = steps_shown c.in-Some.steps in
    let left = c.loop-left.left in
    let following = c.next_steps.new.self.left in
    let count = c.len-left.result in
    let front = take-steps left count c.loop-left.cursor.left shown following c.in-Some.ensures.some c.len-left.ensures.value c.in-Some.ensures.within.1 in
    let asked = ap all_coins_of front ∙ coins-append shown (take (left - count) following) in
    omega (arith, asked, c.run_steps.ensures.asks, c.loop-left.invariant.asks)
