use Rattle.stab_recording.proofs.Names.{ℕ, Bool, List, Letter, Step, IsMissing, subst, ◌+◌, ◌-◌, ◌≤◌, length, length-take, coins-less, missing-later, take, drop, arith, all_coins_of, coins_from, outcome_of, differing, GoesOver, ones-split, ones-within, propagation-others}
use Rattle.stab_recording.proofs.StopLemmas.{propagation-whole, whole-left}
use Rattle.stab_recording.proofs.other_coins.propagate_with_coins.Goals as goal

pub propagate-requires : goal.propagate-requires
propagate-requires g c = record {
  may = record {
    same_length = c.requires.same_length;
    fits = c.requires.fits;
    placed = c.requires.placed;
    few = c.requires.few;
    few_passed = let few = c.requires.few in omega (arith, few);
  };
}

pub returns-in_err-propagate-clause-asks : goal.returns-in_err-propagate-clause-asks
returns-in_err-propagate-clause-asks g c =
    let count = all_coins_of (take c.args.most c.args.cursor.now.left) in
    omega (arith, c.propagate.ensures.asks, ones-split c.args.propagation.now.coin count c.args.free.now, ones-within count (drop c.args.propagation.now.coin c.args.free.now))

pub returns-clause-asks : goal.returns-clause-asks
returns-clause-asks g c =
    let count = all_coins_of (take c.args.most c.args.cursor.now.left) in
    omega (arith, c.propagate.ensures.asks, ones-split c.args.propagation.now.coin count c.args.free.now, ones-within count (drop c.args.propagation.now.coin c.args.free.now))

pub returns-clause-asks_random : goal.returns-clause-asks_random
returns-clause-asks_random g c =
    omega (arith, c.propagate.ensures.asks, ones-split c.args.propagation.now.coin (all_coins_of (take c.args.most c.args.cursor.now.left)) c.args.free.now)

-- no pivot is missing
preserved : (strings : List (List Letter)) (free : List Bool) (coin most by_frame : ℕ) (xs : List Step) → by_frame ≤ 0 + length (take most xs)
    → IsMissing strings free (coin + all_coins_of (take (by_frame - 0) xs)) → IsMissing strings free (coin + all_coins_of (take most xs))
preserved strings free coin most by_frame xs le =
    missing-later strings free (coin + all_coins_of (take (by_frame - 0) xs)) (coin + all_coins_of (take most xs))
    (omega (arith, coins-less (by_frame - 0) most xs (omega (arith, le, length-take most xs))))

pub returns-clause-left : goal.returns-clause-left
returns-clause-left g c =
    let xs = c.args.cursor.now.left in
    let done = c.in_ok-propagate.ensures {u = tt} in
    whole-left (length c.args.propagation.now.letters) 0 c.in_ok-propagate.field-0.steps c.args.most _ c.args.strings.now.strings c.args.free.now xs c.propagate.new.cursor.left c.propagate.new.propagation
    c.in_ok-propagate.field-0.stop done.passed.stop done.gone
    (λ determined. preserved c.args.strings.now.strings c.args.free.now c.args.propagation.now.coin c.args.most c.propagate.new.by_frame xs done.most (done.passed.missing determined)) c.requires.preserved done.passed.left

pub returns-clause-propagated : goal.returns-clause-propagated
returns-clause-propagated g c =
    let n = length c.args.propagation.now.letters in
    let xs = c.args.cursor.now.left in
    let others = coins_from c.args.ahead (g.C.Coins.sequence c.args.coins.now) in
    let done = c.in_ok-propagate.ensures {u = tt} in
    let whole =
    propagation-whole n 0 c.in_ok-propagate.field-0.steps c.args.most _ c.args.strings.now.strings c.args.free.now xs c.propagate.new.propagation c.in_ok-propagate.field-0.stop
    done.passed.stop done.gone
    (λ determined. preserved c.args.strings.now.strings c.args.free.now c.args.propagation.now.coin c.args.most c.propagate.new.by_frame xs done.most (done.passed.missing determined))
    c.requires.preserved in
    propagation-others n c.args.strings.now.strings c.args.free.now c.args.outcomes.now others (take c.args.most xs) c.args.propagation.now c.propagate.new.propagation
    (subst (λ ys. GoesOver n c.args.strings.now.strings c.args.free.now (differing (outcome_of c.args.outcomes.now c.args.propagation.now.coin) others) ys c.args.propagation.now c.propagate.new.propagation) whole
    (subst (λ k. GoesOver n c.args.strings.now.strings c.args.free.now (differing (outcome_of c.args.outcomes.now k) others) (take c.in_ok-propagate.field-0.steps xs)
    c.args.propagation.now c.propagate.new.propagation) c.coin.ensures.value done.goes))
