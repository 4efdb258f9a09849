use Rattle.stab_frames.proofs.Names.{◌+◌, refl, sym, ◌∙◌, ap, subst, length, take, arith, length-map, IfOk-weaker, one, controlled_step, measured, detector, step_shown, steps_shown, lookbacks_of, all_coins_of, coins-measured, AsksRandom, GoesOver, IsMissing}
use Rattle.stab_frames.proofs.RandomLemmas.{asks-none}
use Rattle.stab_frames.proofs.GoesOverLemmas.{all-mapped, goes-single}
use Rattle.stab_frames.proofs.instruction.propagate_instruction.Goals as goal

pub returns-in-Gates-clause-goes : goal.returns-in-Gates-clause-goes
returns-in-Gates-clause-goes g c =
    let shown = steps_shown c.args.steps in
    let draw = g.D.Draw.changes c.args.known.draw.now (g.C.Coins.sequence c.args.coins.now) in
    subst (λ xs. GoesOver (length c.args.propagation.now.letters) c.args.known.strings.now.strings c.args.known.free.now draw xs c.args.propagation.now c.propagate_gates.new.propagation)
    (all-mapped (one c.in-Gates.gate) c.in-Gates.qubits.now shown (ap steps_shown c.in-Gates.is))
    (c.propagate_gates.ensures.goes c.args.known.strings.now.strings c.args.known.free.now draw c.requires.placed)

pub returns-in-Pairs-clause-goes : goal.returns-in-Pairs-clause-goes
returns-in-Pairs-clause-goes g c =
    let shown = steps_shown c.args.steps in
    let draw = g.D.Draw.changes c.args.known.draw.now (g.C.Coins.sequence c.args.coins.now) in
    subst (λ xs. GoesOver (length c.args.propagation.now.letters) c.args.known.strings.now.strings c.args.known.free.now draw xs c.args.propagation.now c.propagate_pairs.new.propagation)
    (all-mapped (controlled_step c.in-Pairs.axis) c.in-Pairs.pairs.now shown (ap steps_shown c.in-Pairs.is))
    (c.propagate_pairs.ensures.goes c.args.known.strings.now.strings c.args.known.free.now draw c.requires.placed)

pub returns-in_ok-propagate_detectors-in-Detectors-clause-goes : goal.returns-in_ok-propagate_detectors-in-Detectors-clause-goes
returns-in_ok-propagate_detectors-in-Detectors-clause-goes g c =
    let shown = steps_shown c.args.steps in
    let draw = g.D.Draw.changes c.args.known.draw.now (g.C.Coins.sequence c.args.coins.now) in
    subst (λ xs. GoesOver (length c.args.propagation.now.letters) c.args.known.strings.now.strings c.args.known.free.now draw xs c.args.propagation.now c.propagate_detectors.new.propagation)
    (all-mapped detector (lookbacks_of c.in-Detectors.detectors) shown (ap steps_shown c.in-Detectors.is) ∙ ap (λ k. take k shown) (sym c.len.ensures.value))
    ((c.in_ok-propagate_detectors-in-Detectors.ensures {u = tt}).goes c.args.known.strings.now.strings c.args.known.free.now draw c.requires.placed)

pub returns-in-Measurements-clause-asks : goal.returns-in-Measurements-clause-asks
returns-in-Measurements-clause-asks g c =
    subst (λ k. AsksRandom c.args.known.free.now c.args.propagation.now.coin (c.args.propagation.now.coin + k) (g.C.Coins.asks c.args.coins.now) (g.C.Coins.asks c.propagate_measurements.new.coins))
    (sym (ap all_coins_of (ap steps_shown c.in-Measurements.is) ∙ coins-measured c.in-Measurements.measurement c.in-Measurements.targets.now)) c.propagate_measurements.ensures.asks

pub returns-in-Measurements-clause-missing : goal.returns-in-Measurements-clause-missing
returns-in-Measurements-clause-missing g c =
    let shown = ap steps_shown c.in-Measurements.is in
    let count = ap length shown ∙ length-map c.in-Measurements.targets.now (measured c.in-Measurements.measurement) in
    let coins = ap all_coins_of shown ∙ coins-measured c.in-Measurements.measurement c.in-Measurements.targets.now in
    IfOk-weaker c.propagate_measurements.result _ _
    (λ k missing less. subst (λ j. IsMissing c.args.known.strings.now.strings c.args.known.free.now (c.args.propagation.now.coin + j)) (sym coins) (missing (omega (arith, less, count))))
    c.propagate_measurements.ensures.missing

pub returns-in_ok-went-in-Single-clause-goes : goal.returns-in_ok-went-in-Single-clause-goes
returns-in_ok-went-in-Single-clause-goes g c =
    let done = c.in_ok-went-in-Single.ensures {u = tt} in
    goes-single (length c.args.propagation.now.letters) c.args.known.strings.now.strings c.args.known.free.now
    (g.D.Draw.changes c.args.known.draw.now (g.C.Coins.sequence c.args.coins.now)) (step_shown c.in-Single.step) (steps_shown c.args.steps) c.in_ok-went-in-Single.went c.from.result
    c.args.propagation.now c.propagate_step.new.propagation (ap steps_shown c.in-Single.is) (λ yes. grind (arith, yes, c.from.ensures)) (λ other. grind (arith, other, c.from.ensures)) done.goes
    c.requires.placed refl

pub returns-in-Gates-clause-asks : goal.returns-in-Gates-clause-asks
returns-in-Gates-clause-asks g c = asks-none c.args.known.free.now c.args.propagation.now.coin (all_coins_of (steps_shown c.args.steps)) (g.C.Coins.asks c.args.coins.now)

pub returns-in-Pairs-clause-asks : goal.returns-in-Pairs-clause-asks
returns-in-Pairs-clause-asks g c = asks-none c.args.known.free.now c.args.propagation.now.coin (all_coins_of (steps_shown c.args.steps)) (g.C.Coins.asks c.args.coins.now)

pub returns-in_err-propagate_detectors-in-Detectors-clause-asks : goal.returns-in_err-propagate_detectors-in-Detectors-clause-asks
returns-in_err-propagate_detectors-in-Detectors-clause-asks g c = asks-none c.args.known.free.now c.args.propagation.now.coin (all_coins_of (steps_shown c.args.steps)) (g.C.Coins.asks c.args.coins.now)

pub returns-in_ok-propagate_detectors-in-Detectors-clause-asks : goal.returns-in_ok-propagate_detectors-in-Detectors-clause-asks
returns-in_ok-propagate_detectors-in-Detectors-clause-asks g c = asks-none c.args.known.free.now c.args.propagation.now.coin (all_coins_of (steps_shown c.args.steps)) (g.C.Coins.asks c.args.coins.now)
