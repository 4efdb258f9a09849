use Rattle.stab_frames.proofs.Names.{refl, sym, ap, subst, length, ◌∷◌, [], IfOk-weaker, controlled, step_shown, GoesOver, Goes}
use Rattle.stab_frames.proofs.GoesOverLemmas.{no_coins-letters, no_coins-detector, no_coins-observable}
use Rattle.stab_frames.proofs.propagate_step.propagate_step.Goals as goal

pub returns-in-Controlled-clause-goes : goal.returns-in-Controlled-clause-goes
returns-in-Controlled-clause-goes g c =
    let n = length c.args.propagation.now.letters in
    let x = controlled c.in-Controlled.letter c.in-Controlled.k c.in-Controlled.qubit in
    let draw = g.D.Draw.changes c.args.known.draw.now (g.C.Coins.sequence c.args.coins.now) in
    let over =
    subst (λ y. GoesOver n c.args.known.strings.now.strings c.args.known.free.now draw (y ∷ []) c.args.propagation.now c.propagate_controlled.new.propagation) (sym (ap step_shown c.in-Controlled.is))
    (no_coins-letters n x c.args.propagation.now c.propagate_controlled.new.propagation _ c.propagate_controlled.ensures.value c.propagate_controlled.ensures.length (λ pivots. refl) (λ pivots. refl) refl
    c.args.known.strings.now.strings c.args.known.free.now draw c.requires.placed) in
    record { went = λ is. over; same = λ other. cc; missing = λ other. cc }

pub returns-in_ok-propagate_detector-in-Detector-clause-goes : goal.returns-in_ok-propagate_detector-in-Detector-clause-goes
returns-in_ok-propagate_detector-in-Detector-clause-goes g c =
    let n = length c.args.propagation.now.letters in
    let ks = c.in-Detector.lookbacks.now in
    let draw = g.D.Draw.changes c.args.known.draw.now (g.C.Coins.sequence c.args.coins.now) in
    let over =
    subst (λ y. GoesOver n c.args.known.strings.now.strings c.args.known.free.now draw (y ∷ []) c.args.propagation.now c.propagate_detector.new.propagation) (sym (ap step_shown c.in-Detector.is))
    (no_coins-detector n ks c.args.propagation.now c.propagate_detector.new.propagation (c.in_ok-propagate_detector-in-Detector.ensures {u = tt}).value (ap length c.propagate_detector.ensures.letters)
    c.args.known.strings.now.strings c.args.known.free.now draw c.requires.placed) in
    record { went = λ is. over; same = λ other. cc; missing = λ other. cc }

pub returns-in_ok-propagate_observable-in-Observable-clause-goes : goal.returns-in_ok-propagate_observable-in-Observable-clause-goes
returns-in_ok-propagate_observable-in-Observable-clause-goes g c =
    let n = length c.args.propagation.now.letters in
    let j = c.in-Observable.observable in
    let ks = c.in-Observable.lookbacks.now in
    let draw = g.D.Draw.changes c.args.known.draw.now (g.C.Coins.sequence c.args.coins.now) in
    let over =
    subst (λ y. GoesOver n c.args.known.strings.now.strings c.args.known.free.now draw (y ∷ []) c.args.propagation.now c.propagate_observable.new.propagation) (sym (ap step_shown c.in-Observable.is))
    (no_coins-observable n j ks c.args.propagation.now c.propagate_observable.new.propagation (c.in_ok-propagate_observable-in-Observable.ensures {u = tt}).value
    (ap length c.propagate_observable.ensures.letters) c.args.known.strings.now.strings c.args.known.free.now draw c.requires.placed) in
    record { went = λ is. over; same = λ other. cc; missing = λ other. cc }

pub returns-in-Collapse-clause-goes : goal.returns-in-Collapse-clause-goes
returns-in-Collapse-clause-goes g c =
    let draw = g.D.Draw.changes c.args.known.draw.now (g.C.Coins.sequence c.args.coins.now) in
    IfOk-weaker c.propagate_collapse.result _ _
    (λ gone goes. subst (λ x. Goes (length c.args.propagation.now.letters) c.args.known.strings.now.strings c.args.known.free.now draw x c.args.propagation.now c.propagate_collapse.new.propagation gone)
    (sym (ap step_shown c.in-Collapse.is)) (goes c.in-Collapse.inverted))
    c.propagate_collapse.ensures.goes

pub returns-in-Product-clause-goes : goal.returns-in-Product-clause-goes
returns-in-Product-clause-goes g c =
    let draw = g.D.Draw.changes c.args.known.draw.now (g.C.Coins.sequence c.args.coins.now) in
    IfOk-weaker c.propagate_product.result _ _
    (λ gone goes. subst (λ x. Goes (length c.args.propagation.now.letters) c.args.known.strings.now.strings c.args.known.free.now draw x c.args.propagation.now c.propagate_product.new.propagation gone)
    (sym (ap step_shown c.in-Product.is)) (goes c.in-Product.inverted))
    c.propagate_product.ensures.goes
