use Rattle.stab_commands.proofs.Names.{◌≡◌, [], ◌+◌, sym, ◌∙◌, ap, subst, refl, length, drop, ◌++◌, arith, length-append, unroll, steps_shown, circuit_items, coins_together, coins-few, check-steps}
use Rattle.stab_commands.proofs.CoinPositionLemmas.{AreGathered, TakeCoins, together, few-together, drop-group, gathered-group, gathered-all}
use Rattle.stab_commands.proofs.coin_positions.coin_positions.Goals as goal

pub steps-init : goal.steps-init
steps-init c =
    let numbers : c.new.result.items ≡ [] = cc in
    let steps : c.new-2.result.items ≡ [] = cc in
    record {
      left = sym c.in_ok-cursor.ensures.steps;
      count = omega (arith, ap length c.in_ok-cursor.ensures.steps);
      gathered = record { coin_is = refl; numbers_are = numbers; steps_are = steps };
    }

pub push-requires-clause-few_coins : goal.push-requires-clause-few_coins
push-requires-clause-few_coins c =
    let items = circuit_items c.args.circuit.now in
    let group = steps_shown c.in-Some.steps in
    omega (
      arith,
      c.steps.invariant.count,
      c.steps.invariant.gathered.coin_is,
      coins-few c.steps.number (unroll items),
      check-steps items c.requires.checked,
      c.coins_of_all-coins.ensures.value,
      few-together c.in-Some.steps,
      ap length c.in-Some.ensures.some,
      length-append group c.next_steps.new.self.left,
    )

pub push-requires-clause-few_steps : goal.push-requires-clause-few_steps
push-requires-clause-few_steps c =
    omega (
      arith,
      c.steps.invariant.count,
      check-steps (circuit_items c.args.circuit.now) c.requires.checked,
      c.coins_of_all-coins.ensures.value,
      few-together c.in-Some.steps,
      ap length c.in-Some.ensures.some,
      length-append (steps_shown c.in-Some.steps) c.next_steps.new.self.left,
    )

pub overflow_add-coin : goal.overflow_add-coin
overflow_add-coin c =
    let items = circuit_items c.args.circuit.now in
    record {
      fits = omega (
        arith,
        c.steps.invariant.count,
        c.steps.invariant.gathered.coin_is,
        coins-few c.steps.number (unroll items),
        check-steps items c.requires.checked,
        c.coins_of_all-coins.ensures.value,
        few-together c.in-Some.steps,
        ap length c.in-Some.ensures.some,
        length-append (steps_shown c.in-Some.steps) c.next_steps.new.self.left,
      );
    }

pub overflow_add-number : goal.overflow_add-number
overflow_add-number c = record {
  fits = omega (
    arith,
    c.steps.invariant.count,
    check-steps (circuit_items c.args.circuit.now) c.requires.checked,
    c.len-number.ensures.value,
    ap length c.in-Some.ensures.some,
    length-append (steps_shown c.in-Some.steps) c.next_steps.new.self.left,
  );
}

pub steps-preserved : goal.steps-preserved
steps-preserved c =
    let xs = unroll (circuit_items c.args.circuit.now) in
    let group = steps_shown c.in-Some.steps in
    let rest = c.next_steps.new.self.left in
    let at : drop c.steps.number xs ≡ group ++ rest = c.steps.invariant.left ∙ c.in-Some.ensures.some in
    let coins : c.coins_of_all-coins.result ≡ coins_together c.in-Some.steps = c.coins_of_all-coins.ensures.value in
    let long : c.len-number.result ≡ length group = c.len-number.ensures.value in
    record {
      left = ap (λ k. drop (c.steps.number + k) xs) long ∙ drop-group c.steps.number xs group rest at;
      count = omega (arith, c.steps.invariant.count, long, ap length c.in-Some.ensures.some, length-append group rest);
      gathered = subst (λ k. AreGathered c.args.free.now xs (c.steps.number + k) (c.steps.coin + c.coins_of_all-coins.result) c.push.new.self.numbers.items c.push.new.self.steps.items) (sym long)
          (gathered-group c.args.free.now xs group rest c.steps.number c.steps.coin c.coins_of_all-coins.result _ _ _ _ at
          (subst (λ k. TakeCoins group k) (sym coins) (together c.in-Some.steps)) c.steps.invariant.gathered c.in_ok-push.ensures.numbers c.in_ok-push.ensures.steps);
    }

pub returns-clause-numbers : goal.returns-clause-numbers
returns-clause-numbers c =
    (gathered-all c.args.free.now (unroll (circuit_items c.args.circuit.now)) c.steps.number c.steps.coin _ _ (c.steps.invariant.left ∙ c.in_default.ensures.none.0) c.requires.randomness c.steps.invariant.gathered).0

pub returns-clause-steps : goal.returns-clause-steps
returns-clause-steps c =
    (gathered-all c.args.free.now (unroll (circuit_items c.args.circuit.now)) c.steps.number c.steps.coin _ _ (c.steps.invariant.left ∙ c.in_default.ensures.none.0) c.requires.randomness c.steps.invariant.gathered).1
