use Rattle.stab_frames.proofs.Names.{◌≡◌, ◌+◌, ◌<◌, sym, ◌∙◌, ap, subst, length, map, take, arith, take-map, measured, GoesOver}
use Rattle.stab_frames.proofs.RandomLemmas.{asks-later, asks-further, missing-later}
use Rattle.stab_frames.proofs.GoesOverLemmas.{goes-same, goes-further, goes-measured, fits-mapped}
use Rattle.stab_frames.proofs.instruction.propagate_each_measurement.Goals as goal

pub propagate_collapse-requires-clause-in_range : goal.propagate_collapse-requires-clause-in_range
propagate_collapse-requires-clause-in_range g c =
    subst (λ q. q < length c.loop-target.propagation.letters) (sym (c.number-qubit.ensures.value ∙ ap (λ t. t.qubit) c.target-item.is))
    (fits-mapped (length c.args.propagation.now.letters) (length c.loop-target.propagation.letters) (measured c.args.measurement) c.args.targets.now c.loop-target.target-index c.target-item.result
    c.requires.fits c.loop-target-test.true c.loop-target.invariant.goes.size)

pub returns-in_err-propagate_collapse-clause-asks : goal.returns-in_err-propagate_collapse-clause-asks
returns-in_err-propagate_collapse-clause-asks g c =
    asks-further c.args.known.free.now c.args.propagation.now.coin c.loop-target.propagation.coin (c.loop-target.propagation.coin + 1) (c.args.propagation.now.coin + length c.args.targets.now)
    (g.C.Coins.asks c.args.coins.now) (g.C.Coins.asks c.loop-target.coins) (g.C.Coins.asks c.propagate_collapse.new.coins)
    c.loop-target.invariant.asks c.propagate_collapse.ensures.asks (omega (arith, c.loop-target.invariant.coin, c.loop-target-test.true))

pub returns-then-not-branch-clause-asks : goal.returns-then-not-branch-clause-asks
returns-then-not-branch-clause-asks g c =
    asks-further c.args.known.free.now c.args.propagation.now.coin c.loop-target.propagation.coin (c.loop-target.propagation.coin + 1) (c.args.propagation.now.coin + length c.args.targets.now)
    (g.C.Coins.asks c.args.coins.now) (g.C.Coins.asks c.loop-target.coins) (g.C.Coins.asks c.propagate_collapse.new.coins)
    c.loop-target.invariant.asks c.propagate_collapse.ensures.asks (omega (arith, c.loop-target.invariant.coin, c.loop-target-test.true))

pub returns-then-not-branch-clause-goes : goal.returns-then-not-branch-clause-goes
returns-then-not-branch-clause-goes g c =
    let over = GoesOver (length c.args.propagation.now.letters) c.args.known.strings.now.strings c.args.known.free.now
    (g.D.Draw.changes c.args.known.draw.now (g.C.Coins.sequence c.args.coins.now)) in
    subst (λ w. over (take c.loop-target.count (map (measured c.args.measurement) c.args.targets.now)) c.args.propagation.now w)
    (sym (((c.in_ok-propagate_collapse.ensures {u = tt}).goes c.target-item.result.inverted).same c.if-not-branch.true))
    (subst (λ xs. over xs c.args.propagation.now c.loop-target.propagation)
    (sym (take-map (measured c.args.measurement) c.loop-target.count c.args.targets.now ∙ ap (λ k. map (measured c.args.measurement) (take k c.args.targets.now)) c.loop-target.invariant.count))
    c.loop-target.invariant.goes)

pub returns-then-not-branch-clause-missing : goal.returns-then-not-branch-clause-missing
returns-then-not-branch-clause-missing g c = λ less.
    missing-later c.args.known.strings.now.strings c.args.known.free.now (c.loop-target.propagation.coin + 1) (c.args.propagation.now.coin + length c.args.targets.now)
    (omega (arith, c.loop-target.invariant.coin, c.loop-target-test.true)) (((c.in_ok-propagate_collapse.ensures {u = tt}).goes c.target-item.result.inverted).missing c.if-not-branch.true)

pub loop-target-preserved : goal.loop-target-preserved
loop-target-preserved g c =
    let inv = c.loop-target.invariant in
    let done = c.in_ok-propagate_collapse.ensures {u = tt} in
    let over =
    goes-same (length c.args.propagation.now.letters) _ _ _ _ _ _ _ _ inv.goes.size (ap (g.D.Draw.changes c.args.known.draw.now) inv.same_coins) ((done.goes c.target-item.result.inverted).went c.if-not-branch.false) in
    let coin : c.propagate_collapse.new.propagation.coin ≡ c.loop-target.propagation.coin + 1 = omega (arith, over.coin) in
    record {
      count = omega (arith, inv.count);
      same_coins = done.same_coins ∙ inv.same_coins;
      coin = omega (arith, coin, inv.coin);
      asks = asks-further c.args.known.free.now c.args.propagation.now.coin c.loop-target.propagation.coin (c.loop-target.propagation.coin + 1) c.propagate_collapse.new.propagation.coin
          (g.C.Coins.asks c.args.coins.now) (g.C.Coins.asks c.loop-target.coins) (g.C.Coins.asks c.propagate_collapse.new.coins)
          inv.asks done.asks (omega (arith, coin));
      goes = goes-further _ _ _ _ (measured c.args.measurement) c.args.targets.now c.loop-target.target-index c.target-item.result _ _ _ c.loop-target-test.true inv.goes
          (goes-measured _ _ _ _ c.args.measurement _ c.target-item.result _ _ _ _ c.target-item.is c.letter-letter.ensures.value c.number-qubit.ensures.value over);
    }

pub returns-clause-asks : goal.returns-clause-asks
returns-clause-asks g c =
    asks-later c.args.known.free.now c.args.propagation.now.coin c.loop-target.propagation.coin (c.args.propagation.now.coin + length c.args.targets.now) (g.C.Coins.asks c.args.coins.now)
    (g.C.Coins.asks c.loop-target.coins) c.loop-target.invariant.asks (omega (arith, c.loop-target.invariant.coin, c.loop-target.auto.target-index-end))
