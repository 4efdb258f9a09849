use Rattle.stab_ways.proofs.Names.{◌≡◌, ◌+◌, ◌-◌, ◌++◌, sym, ◌∙◌, ap, subst, arith, All, length, take, drop, length-drop, steps_of, steps_shown, StepFits, fits-over, frame_at, EndsTogether, steps_leave}
use Rattle.stab_ways.proofs.PassLemmas.{passed-next, front-next, none-missing, whole, coin-bound}
use Rattle.stab_ways.proofs.ResetLemmas.{front-fits, front-short}
use Rattle.stab_ways.specs.inner.Walks.{passed}
use Rattle.stab_ways.proofs.walk.pass.Goals as goal

pub returns-in_default-clause-counted : goal.returns-in_default-clause-counted
returns-in_default-clause-counted c =
    absurd (omega (arith, c.steps-test.true, c.requires.within.1, ap length c.in_default.ensures.none, length-drop c.steps.position (steps_of c.args.kind.now)))

pub returns-in_default-clause-passed : goal.returns-in_default-clause-passed
returns-in_default-clause-passed c =
    absurd (omega (arith, c.steps-test.true, c.requires.within.1, ap length c.in_default.ensures.none, length-drop c.steps.position (steps_of c.args.kind.now)))

pub at_once-front-requires-clause-fits : goal.at_once-front-requires-clause-fits
at_once-front-requires-clause-fits c =
    let ys = steps_shown c.in-Some.steps in
    subst (λ s. All (StepFits (length s)) ys) (sym c.letters.ensures.value)
    (fits-over (length c.args.propagation.now.letters) (length c.steps.propagation.letters) c.steps.position (steps_of c.args.kind.now) ys
    (drop (c.steps.position + length ys) (steps_of c.args.kind.now)) c.in-Some.ensures.some c.steps.invariant.size c.requires.fits)

pub propagate_instruction-requires-clause-fits : goal.propagate_instruction-requires-clause-fits
propagate_instruction-requires-clause-fits c =
    let ys = steps_shown c.in-Some.steps in
    front-fits (length c.steps.propagation.letters) (steps_shown c.at_once-front.result) ys c.at_once-front.ensures.front
    (fits-over (length c.args.propagation.now.letters) (length c.steps.propagation.letters) c.steps.position (steps_of c.args.kind.now) ys
    (drop (c.steps.position + length ys) (steps_of c.args.kind.now)) c.in-Some.ensures.some c.steps.invariant.size c.requires.fits)

pub propagate_instruction-requires-clause-few : goal.propagate_instruction-requires-clause-few
propagate_instruction-requires-clause-few c =
    omega (
      arith,
      c.requires.few,
      c.in-Some.ensures.within.1,
      front-short (steps_shown c.at_once-front.result) (steps_shown c.in-Some.steps) c.at_once-front.ensures.front,
      c.steps.invariant.order,
      c.steps-test.true,
      coin-bound (length c.args.propagation.now.letters) (c.steps.position - c.args.from) (drop c.args.from (steps_of c.args.kind.now)) c.args.propagation.now c.steps.propagation c.steps.invariant.passed,
    )

pub propagate_instruction-requires-clause-few_propagated : goal.propagate_instruction-requires-clause-few_propagated
propagate_instruction-requires-clause-few_propagated c =
    omega (
      arith,
      c.requires.few_propagated,
      c.in-Some.ensures.within.1,
      front-short (steps_shown c.at_once-front.result) (steps_shown c.in-Some.steps) c.at_once-front.ensures.front,
      c.steps.invariant.order,
      c.steps.invariant.counted,
      c.steps-test.true,
    )

pub leave_out_reset-requires : goal.leave_out_reset-requires
leave_out_reset-requires c =
    let ys = steps_shown c.in-Some.steps in record {
      fits = subst (λ j. All (StepFits j) (steps_shown c.at_once-front.result)) (sym c.propagate_instruction.ensures.length)
          (front-fits (length c.steps.propagation.letters) (steps_shown c.at_once-front.result) ys c.at_once-front.ensures.front
          (fits-over (length c.args.propagation.now.letters) (length c.steps.propagation.letters) c.steps.position (steps_of c.args.kind.now) ys
          (drop (c.steps.position + length ys) (steps_of c.args.kind.now)) c.in-Some.ensures.some c.steps.invariant.size c.requires.fits));
    }

pub steps-preserved : goal.steps-preserved
steps-preserved c =
    let n = length c.args.propagation.now.letters in
    let xs = steps_of c.args.kind.now in
    let zs = steps_shown c.in-Some.steps in
    let ys = steps_shown c.at_once-front.result in
    let front = c.at_once-front.ensures.front in
    let old = c.steps.propagation in
    let mid = c.propagate_instruction.new.propagation in
    let new = c.leave_out_reset.new.propagation in
    let short = front-short ys zs front in
    let together : EndsTogether (length old.letters) ys (frame_at 0 old) =
    subst (λ s. EndsTogether (length s) ys (record { letters = s; flips = old.flips.records })) c.letters.ensures.value (c.at_once-front.ensures.together old.flips.records) in
    let left : new ≡ record mid { letters = steps_leave (length old.letters) ys mid.letters } =
    c.leave_out_reset.ensures.value ∙ ap (λ j. record mid { letters = steps_leave j ys mid.letters }) c.propagate_instruction.ensures.length in
    let long : c.in_ok-went.went ≡ length ys =
    whole c.in_ok-went.went (length ys) c.in_ok-went.ensures.within
    (λ less. none-missing c.args.strings.now.strings _ (c.in_ok-went.ensures.missing less)) in
    record {
      order = omega (arith, c.steps.invariant.order);
      within = omega (arith, long, short, c.in-Some.ensures.within.1, c.steps-test.true);
      counted = omega (arith, c.propagate_instruction.ensures.counted, c.steps.invariant.counted, long, c.steps.invariant.order);
      size = c.leave_out_reset.ensures.length ∙ c.propagate_instruction.ensures.length ∙ c.steps.invariant.size;
      passed = subst (λ k. new ≡ passed n (take ((c.steps.position + k) - c.args.from) (drop c.args.from xs)) c.args.propagation.now) (sym long)
          (passed-next n (length old.letters) c.args.from c.steps.position c.in_ok-went.went c.args.strings.now.strings xs ys
          (front.0 ++ drop (c.steps.position + length zs) xs) c.args.propagation.now old mid new c.steps.invariant.order
          (front-next (drop c.steps.position xs) zs (drop (c.steps.position + length zs) xs) ys c.in-Some.ensures.some front)
          (omega (arith, long)) c.steps.invariant.size c.requires.placed c.steps.invariant.passed c.in_ok-went.ensures.goes together left);
    }
