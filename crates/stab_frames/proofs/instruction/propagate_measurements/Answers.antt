use Rattle.stab_frames.proofs.Names.{◌≤◌, ◌+◌, sym, ◌∙◌, ap, subst, length, take, arith, take-map, measured, GoesOver}
use Rattle.stab_frames.proofs.RandomLemmas.{asks-further, missing-later}
use Rattle.stab_frames.proofs.GoesOverLemmas.{measured-coin, goes-same}
use Rattle.stab_frames.proofs.TouchLemmas.{fits-part, goes-less}
use Rattle.stab_frames.proofs.instruction.propagate_measurements.Goals as goal

pub propagate_few_measurements-requires-clause-fits : goal.propagate_few_measurements-requires-clause-fits
propagate_few_measurements-requires-clause-fits g c =
    fits-part (length c.args.propagation.now.letters) (length c.loop-done.propagation.letters) (measured c.args.measurement) c.args.targets.now c.split_at-in-loop-done.result.0.now
    c.loop-done.done c.min-count.result c.requires.fits c.loop-done.invariant.goes.size (c.split_at-in-loop-done.ensures.front ∙ ap (take c.min-count.result) c.split_at.ensures.back)

pub returns-in_err-went-clause-asks : goal.returns-in_err-went-clause-asks
returns-in_err-went-clause-asks g c =
    asks-further c.args.known.free.now c.args.propagation.now.coin c.loop-done.propagation.coin (c.loop-done.propagation.coin + length c.split_at-in-loop-done.result.0.now)
    (c.args.propagation.now.coin + length c.args.targets.now) (g.C.Coins.asks c.args.coins.now) (g.C.Coins.asks c.loop-done.coins) (g.C.Coins.asks c.propagate_few_measurements.new.coins)
    c.loop-done.invariant.asks c.propagate_few_measurements.ensures.asks
    (omega (arith, c.loop-done.invariant.coin, c.split_at-in-loop-done.ensures.front_len, c.min-count.ensures, c.loop-done-test.true))

pub returns-then-went-count-clause-asks : goal.returns-then-went-count-clause-asks
returns-then-went-count-clause-asks g c =
    asks-further c.args.known.free.now c.args.propagation.now.coin c.loop-done.propagation.coin (c.loop-done.propagation.coin + length c.split_at-in-loop-done.result.0.now)
    (c.args.propagation.now.coin + length c.args.targets.now) (g.C.Coins.asks c.args.coins.now) (g.C.Coins.asks c.loop-done.coins) (g.C.Coins.asks c.propagate_few_measurements.new.coins)
    c.loop-done.invariant.asks c.propagate_few_measurements.ensures.asks
    (omega (arith, c.loop-done.invariant.coin, c.split_at-in-loop-done.ensures.front_len, c.min-count.ensures, c.loop-done-test.true))

pub returns-then-went-count-clause-goes : goal.returns-then-went-count-clause-goes
returns-then-went-count-clause-goes g c =
    let draw = g.D.Draw.changes c.args.known.draw.now in
    let inv = c.loop-done.invariant in
    let done = c.in_ok-went.ensures {u = tt} in
    let over =
    goes-less _ _ _ _ (measured c.args.measurement) c.args.targets.now c.split_at-in-loop-done.result.0.now c.loop-done.done c.in_ok-went.went c.min-count.result _ _ _ inv.goes
    (c.split_at-in-loop-done.ensures.front ∙ ap (take c.min-count.result) c.split_at.ensures.back)
    (omega (arith, done.within, c.split_at-in-loop-done.ensures.front_len))
    (goes-same _ _ _ _ _ _ _ _ _ inv.goes.size (ap draw inv.same_coins) done.goes) in
    subst (λ xs. GoesOver (length c.args.propagation.now.letters) c.args.known.strings.now.strings c.args.known.free.now (draw (g.C.Coins.sequence c.args.coins.now)) xs
    c.args.propagation.now c.propagate_few_measurements.new.propagation)
    (sym (take-map (measured c.args.measurement) (c.loop-done.done + c.in_ok-went.went) c.args.targets.now)) over

pub returns-then-went-count-clause-missing : goal.returns-then-went-count-clause-missing
returns-then-went-count-clause-missing g c = λ less.
    missing-later c.args.known.strings.now.strings c.args.known.free.now (c.loop-done.propagation.coin + length c.split_at-in-loop-done.result.0.now)
    (c.args.propagation.now.coin + length c.args.targets.now)
    (omega (arith, c.loop-done.invariant.coin, c.split_at-in-loop-done.ensures.front_len, c.min-count.ensures, c.loop-done-test.true))
    ((c.in_ok-went.ensures {u = tt}).missing (omega (arith, c.if-went-count.true, c.split_at-in-loop-done.ensures.front_len, c.split_at.ensures.back_len, c.min-count.ensures)))

pub loop-done-preserved : goal.loop-done-preserved
loop-done-preserved g c =
    let draw = g.D.Draw.changes c.args.known.draw.now in
    let inv = c.loop-done.invariant in
    let done = c.in_ok-went.ensures {u = tt} in
    let over =
    goes-less _ _ _ _ (measured c.args.measurement) c.args.targets.now c.split_at-in-loop-done.result.0.now c.loop-done.done c.in_ok-went.went c.min-count.result _ _ _ inv.goes
    (c.split_at-in-loop-done.ensures.front ∙ ap (take c.min-count.result) c.split_at.ensures.back)
    (omega (arith, done.within, c.split_at-in-loop-done.ensures.front_len))
    (goes-same _ _ _ _ _ _ _ _ _ inv.goes.size (ap draw inv.same_coins) done.goes) in
    let within : c.loop-done.done + c.in_ok-went.went ≤ length c.args.targets.now =
    omega (arith, done.within, c.split_at-in-loop-done.ensures.front_len, c.min-count.ensures, c.loop-done-test.true) in
    let coin = measured-coin _ _ _ _ c.args.measurement c.args.targets.now (c.loop-done.done + c.in_ok-went.went) _ _ over within in
    record {
      within = within;
      same_coins = done.same_coins ∙ inv.same_coins;
      coin = coin;
      asks = asks-further c.args.known.free.now c.args.propagation.now.coin c.loop-done.propagation.coin (c.loop-done.propagation.coin + length c.split_at-in-loop-done.result.0.now)
          c.propagate_few_measurements.new.propagation.coin (g.C.Coins.asks c.args.coins.now) (g.C.Coins.asks c.loop-done.coins) (g.C.Coins.asks c.propagate_few_measurements.new.coins)
          inv.asks done.asks
          (omega (arith, coin, inv.coin, done.within, c.if-went-count.false, c.split_at-in-loop-done.ensures.front_len));
      goes = over;
    }
