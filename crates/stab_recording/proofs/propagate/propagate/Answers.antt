use Rattle.stab_recording.proofs.Names.{Gone, refl, ◌≡◌, ◌+◌, ◌-◌, ◌≤◌, ◌∙◌, ap, sym, subst, arith, length, take, drop, length-take, take-length, steps_shown, all_coins_of, coins-few, frame_at, IsGone, asks-later, asks-further, missing-later, goes-same, left-over, left-none, drop-over, fits-over, coins-within, coins-less, goes-over}
use Rattle.stab_recording.specs.declared.propagate.Stop.TheVariants.{After}
use Rattle.stab_recording.proofs.StopLemmas.{has-passed, gone-determined, after-determined}
use Rattle.stab_recording.proofs.propagate.propagate.Goals as goal

pub propagate_instruction-requires-clause-fits : goal.propagate_instruction-requires-clause-fits
propagate_instruction-requires-clause-fits g c =
    fits-over (length c.args.propagation.now.letters) (length c.loop-steps.propagation.letters) c.loop-steps.steps c.args.cursor.now.left (steps_shown c.in-Some.next) c.next_steps.new.self.left
    (sym c.loop-steps.invariant.left ∙ c.in-Some.ensures.some) c.loop-steps.invariant.goes.size c.requires.may.fits

pub propagate_instruction-requires-clause-few : goal.propagate_instruction-requires-clause-few
propagate_instruction-requires-clause-few g c =
    let le = left-over c.loop-steps.steps c.args.cursor.now.left (steps_shown c.in-Some.next) c.next_steps.new.self.left (sym c.loop-steps.invariant.left ∙ c.in-Some.ensures.some) c.in-Some.ensures.within.0 in
    omega (arith, c.loop-steps.invariant.goes.coin, coins-few c.loop-steps.steps c.args.cursor.now.left, le, c.requires.may.few)

pub propagate_instruction-requires-clause-few_propagated : goal.propagate_instruction-requires-clause-few_propagated
propagate_instruction-requires-clause-few_propagated g c =
    let le = left-over c.loop-steps.steps c.args.cursor.now.left (steps_shown c.in-Some.next) c.next_steps.new.self.left (sym c.loop-steps.invariant.left ∙ c.in-Some.ensures.some) c.in-Some.ensures.within.0 in
    omega (arith, c.loop-steps.invariant.by_frame, le, c.requires.may.few_passed)

-- how far it came

pub returns-then-is_gone-clause-passed : goal.returns-then-is_gone-clause-passed
returns-then-is_gone-clause-passed g c =
    let inv = c.loop-steps.invariant in
    has-passed _ _ _ _ _ _ _ _ _ _ _ _ Gone inv.most inv.within inv.by_frame inv.left gone-determined
    (λ base. subst (λ m. IsGone m c.args.window (frame_at base c.loop-steps.propagation)) inv.goes.size (c.is_gone.ensures.gone c.if-is_gone.true base))

pub returns-in_default-clause-passed : goal.returns-in_default-clause-passed
returns-in_default-clause-passed g c =
    let inv = c.loop-steps.invariant in
    let empty = c.in_default.ensures.none in
    let none = left-none c.loop-steps.steps c.args.cursor.now.left (sym inv.left ∙ empty.0) in
    has-passed _ _ _ _ _ _ _ _ _ _ _ _ After inv.most inv.within inv.by_frame (empty.1 ∙ sym empty.0 ∙ inv.left) after-determined
    (omega (arith, length-take c.args.most c.args.cursor.now.left, inv.most, inv.within, none))

pub returns-clause-passed : goal.returns-clause-passed
returns-clause-passed g c =
    let inv = c.loop-steps.invariant in
    has-passed _ _ _ _ _ _ _ _ _ _ _ _ After inv.most inv.within inv.by_frame inv.left after-determined
    (omega (arith, length-take c.args.most c.args.cursor.now.left, inv.most, inv.within, c.loop-steps-test.false))

pub returns-then-went-len-clause-passed : goal.returns-then-went-len-clause-passed
returns-then-went-len-clause-passed g c =
    let xs = c.args.cursor.now.left in
    let ys = steps_shown c.in-Some.next in
    let inv = c.loop-steps.invariant in
    let left = sym inv.left ∙ c.in-Some.ensures.some in
    let le = left-over c.loop-steps.steps xs ys c.next_steps.new.self.left left c.in-Some.ensures.within.0 in
    let few : c.in_ok-went.went ≤ length ys = c.in_ok-went.ensures.within in
    let passed : c.propagate_instruction.new.by_frame - c.args.by_frame.now ≡ c.loop-steps.steps + length ys =
    omega (arith, inv.by_frame, c.propagate_instruction.ensures.counted) in
    let coins = coins-within c.loop-steps.steps (c.loop-steps.steps + length ys) xs ys _ left (omega arith) in
    record {
      within = omega (arith, length-take c.args.most xs, le, few, c.in-Some.ensures.within.1, c.loop-steps-test.true);
      left = λ determined. absurd (determined refl);
      stop = tt;
      counted = omega (arith, few, inv.by_frame, c.propagate_instruction.ensures.counted);
      missing = λ is.
          missing-later c.args.known.strings.now.strings c.args.known.free.now (c.loop-steps.propagation.coin + all_coins_of ys)
          (c.args.propagation.now.coin + all_coins_of (take (c.propagate_instruction.new.by_frame - c.args.by_frame.now) xs))
          (omega (arith, inv.goes.coin, coins, ap (λ k. all_coins_of (take k xs)) passed))
          ((c.in_ok-went.ensures {u = tt}).missing (omega (arith, c.if-went-len.true, c.len.ensures.value)));
    }

-- no more steps are counted than it may pass

pub returns-then-is_gone-clause-most : goal.returns-then-is_gone-clause-most
returns-then-is_gone-clause-most g c =
    omega (arith, length-take c.args.most c.args.cursor.now.left, c.loop-steps.invariant.by_frame, c.loop-steps.invariant.most, c.loop-steps.invariant.within)

pub returns-in_default-clause-most : goal.returns-in_default-clause-most
returns-in_default-clause-most g c =
    omega (arith, length-take c.args.most c.args.cursor.now.left, c.loop-steps.invariant.by_frame, c.loop-steps.invariant.most, c.loop-steps.invariant.within)

pub returns-clause-most : goal.returns-clause-most
returns-clause-most g c =
    omega (arith, length-take c.args.most c.args.cursor.now.left, c.loop-steps.invariant.by_frame, c.loop-steps.invariant.most, c.loop-steps.invariant.within)

pub returns-in_err-went-clause-most : goal.returns-in_err-went-clause-most
returns-in_err-went-clause-most g c =
    let le = left-over c.loop-steps.steps c.args.cursor.now.left (steps_shown c.in-Some.next) c.next_steps.new.self.left (sym c.loop-steps.invariant.left ∙ c.in-Some.ensures.some) c.in-Some.ensures.within.0 in
    omega (arith, length-take c.args.most c.args.cursor.now.left, c.loop-steps.invariant.by_frame, c.propagate_instruction.ensures.counted, le, c.in-Some.ensures.within.1, c.loop-steps-test.true)

pub returns-then-went-len-clause-most : goal.returns-then-went-len-clause-most
returns-then-went-len-clause-most g c =
    let le = left-over c.loop-steps.steps c.args.cursor.now.left (steps_shown c.in-Some.next) c.next_steps.new.self.left (sym c.loop-steps.invariant.left ∙ c.in-Some.ensures.some) c.in-Some.ensures.within.0 in
    omega (arith, length-take c.args.most c.args.cursor.now.left, c.loop-steps.invariant.by_frame, c.propagate_instruction.ensures.counted, le, c.in-Some.ensures.within.1, c.loop-steps-test.true)

pub returns-then-is_gone-clause-asks : goal.returns-then-is_gone-clause-asks
returns-then-is_gone-clause-asks g c =
    asks-later c.args.known.free.now c.args.propagation.now.coin c.loop-steps.propagation.coin (c.args.propagation.now.coin + all_coins_of (take c.args.most c.args.cursor.now.left))
    (g.C.Coins.asks c.args.coins.now) (g.C.Coins.asks c.loop-steps.coins) c.loop-steps.invariant.asks
    (omega (arith, c.loop-steps.invariant.goes.coin, coins-less c.loop-steps.steps c.args.most c.args.cursor.now.left c.loop-steps.invariant.most))

pub returns-in_default-clause-asks : goal.returns-in_default-clause-asks
returns-in_default-clause-asks g c =
    asks-later c.args.known.free.now c.args.propagation.now.coin c.loop-steps.propagation.coin (c.args.propagation.now.coin + all_coins_of (take c.args.most c.args.cursor.now.left))
    (g.C.Coins.asks c.args.coins.now) (g.C.Coins.asks c.loop-steps.coins) c.loop-steps.invariant.asks
    (omega (arith, c.loop-steps.invariant.goes.coin, coins-less c.loop-steps.steps c.args.most c.args.cursor.now.left c.loop-steps.invariant.most))

pub returns-in_err-went-clause-asks : goal.returns-in_err-went-clause-asks
returns-in_err-went-clause-asks g c =
    let coins =
    coins-within c.loop-steps.steps c.args.most c.args.cursor.now.left (steps_shown c.in-Some.next) _ (sym c.loop-steps.invariant.left ∙ c.in-Some.ensures.some)
    (omega (arith, c.in-Some.ensures.within.1, c.loop-steps-test.true)) in
    asks-further c.args.known.free.now c.args.propagation.now.coin c.loop-steps.propagation.coin (c.loop-steps.propagation.coin + all_coins_of (steps_shown c.in-Some.next))
    (c.args.propagation.now.coin + all_coins_of (take c.args.most c.args.cursor.now.left)) (g.C.Coins.asks c.args.coins.now) (g.C.Coins.asks c.loop-steps.coins) (g.C.Coins.asks c.propagate_instruction.new.coins)
    c.loop-steps.invariant.asks c.propagate_instruction.ensures.asks (omega (arith, c.loop-steps.invariant.goes.coin, coins))

pub returns-then-went-len-clause-asks : goal.returns-then-went-len-clause-asks
returns-then-went-len-clause-asks g c =
    let coins =
    coins-within c.loop-steps.steps c.args.most c.args.cursor.now.left (steps_shown c.in-Some.next) _ (sym c.loop-steps.invariant.left ∙ c.in-Some.ensures.some)
    (omega (arith, c.in-Some.ensures.within.1, c.loop-steps-test.true)) in
    asks-further c.args.known.free.now c.args.propagation.now.coin c.loop-steps.propagation.coin (c.loop-steps.propagation.coin + all_coins_of (steps_shown c.in-Some.next))
    (c.args.propagation.now.coin + all_coins_of (take c.args.most c.args.cursor.now.left)) (g.C.Coins.asks c.args.coins.now) (g.C.Coins.asks c.loop-steps.coins) (g.C.Coins.asks c.propagate_instruction.new.coins)
    c.loop-steps.invariant.asks c.propagate_instruction.ensures.asks (omega (arith, c.loop-steps.invariant.goes.coin, coins))

pub returns-then-went-len-clause-goes : goal.returns-then-went-len-clause-goes
returns-then-went-len-clause-goes g c =
    let xs = c.args.cursor.now.left in
    let ys = steps_shown c.in-Some.next in
    let rest = c.next_steps.new.self.left in
    let inv = c.loop-steps.invariant in
    let done = c.in_ok-went.ensures {u = tt} in
    let left = sym inv.left ∙ c.in-Some.ensures.some in
    let over =
    goes-over (length c.args.propagation.now.letters) _ _ _ c.loop-steps.steps c.in_ok-went.went xs ys rest _ _ _ left done.within inv.goes
    (goes-same _ _ _ _ _ _ _ _ _ inv.goes.size (ap (g.D.Draw.changes c.args.known.draw.now) inv.same_coins) done.goes) in
    over

pub loop-steps-preserved : goal.loop-steps-preserved
loop-steps-preserved g c =
    let xs = c.args.cursor.now.left in
    let ys = steps_shown c.in-Some.next in
    let rest = c.next_steps.new.self.left in
    let inv = c.loop-steps.invariant in
    let done = c.in_ok-went.ensures {u = tt} in
    let left = sym inv.left ∙ c.in-Some.ensures.some in
    let over =
    goes-over (length c.args.propagation.now.letters) _ _ _ c.loop-steps.steps c.in_ok-went.went xs ys rest _ _ _ left done.within inv.goes
    (goes-same _ _ _ _ _ _ _ _ _ inv.goes.size (ap (g.D.Draw.changes c.args.known.draw.now) inv.same_coins) done.goes) in
    let few : c.in_ok-went.went ≤ length ys = done.within in
    let all : length ys ≡ c.in_ok-went.went = omega (arith, few, c.len.ensures.value, c.if-went-len.false) in
    let coins = ap (λ j. all_coins_of (take j ys)) (sym all) ∙ ap all_coins_of (take-length ys) in
    record {
      most = omega (arith, few, c.in-Some.ensures.within.1, c.loop-steps-test.true);
      by_frame = omega (arith, done.counted, all, inv.by_frame);
      within = omega (arith, few, left-over c.loop-steps.steps xs ys rest left c.in-Some.ensures.within.0);
      left = drop-over c.loop-steps.steps xs ys rest left ∙ ap (λ j. drop (c.loop-steps.steps + j) xs) all;
      all = c.next_steps.ensures.all ∙ inv.all;
      same_coins = done.same_coins ∙ inv.same_coins;
      asks = asks-further c.args.known.free.now c.args.propagation.now.coin c.loop-steps.propagation.coin (c.loop-steps.propagation.coin + all_coins_of (steps_shown c.in-Some.next))
          c.propagate_instruction.new.propagation.coin (g.C.Coins.asks c.args.coins.now) (g.C.Coins.asks c.loop-steps.coins) (g.C.Coins.asks c.propagate_instruction.new.coins)
          inv.asks done.asks (omega (arith, done.goes.coin, coins));
      goes = over;
    }
