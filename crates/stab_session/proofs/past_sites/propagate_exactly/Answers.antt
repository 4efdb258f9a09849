use Rattle.stab_session.proofs.Names.{◌≡◌, ◌≢◌, ◌∙◌, ap, subst, arith, rules, length, take, drop, length-take, length-drop, pivot_at, PropagatesOver, NoString, AreEnoughBy}
use Rattle.stab_session.proofs.past_sites.propagate_exactly.Goals as goal

pub returns-in_err-propagated-clause-most : goal.returns-in_err-propagated-clause-most
returns-in_err-propagated-clause-most c = omega (arith, c.propagate_steps.ensures.most, length-take c.args.count c.args.cursor.now.left)

pub returns-then-ne-clause-most : goal.returns-then-ne-clause-most
returns-then-ne-clause-most c = omega (arith, c.propagate_steps.ensures.most, length-take c.args.count c.args.cursor.now.left)

pub returns-else-ne-clause-most : goal.returns-else-ne-clause-most
returns-else-ne-clause-most c = omega (arith, c.propagate_steps.ensures.most, length-take c.args.count c.args.cursor.now.left)

pub returns-then-ne-clause-passed : goal.returns-then-ne-clause-passed
returns-then-ne-clause-passed c = λ did.
    let ok = c.in_ok-propagated.ensures in
    let xs = c.args.cursor.now.left in
    let n = length c.args.propagation.now.letters in
    let pivots = pivot_at c.args.strings.now.strings c.args.free.now in
    let steps = c.in_ok-propagated.propagated.steps in
    let same : steps ≡ c.args.count = search rules in
    let determined : c.in_ok-propagated.propagated.stop ≢ NoString = search rules in
    let left = ok.passed.left determined ∙ ap (λ k. drop k xs) same in
    record {
      within = omega (arith, ok.passed.within, same, length-take c.args.count xs);
      left = left;
      counted = omega (arith, c.propagate_steps.ensures.most, ap length left, length-drop c.args.count xs, length-take c.args.count xs);
      propagated = subst (λ k. PropagatesOver n pivots (take k xs) c.args.propagation.now c.propagate_steps.new.propagation) same ok.propagated;
      enough = subst (λ k. AreEnoughBy n pivots c.args.free.now xs k c.args.propagation.now) same ok.enough;
    }
