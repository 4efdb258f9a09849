use Rattle.stab_sampler.proofs.Names.{refl, true, ◌&&◌, ◌∷◌, [], ◌∙◌, ap, single, strings_anticommute, string_of, collapse, product, step_shown, times_where, flip_of, lane_letters, lane_bits, lane_output, lane_pivots, lane_difference}
use Rattle.stab_sampler.proofs.LaneLemmas.{bits-when}
use Rattle.stab_sampler.proofs.FollowLemmas.{follows-collapse, follows-product}
use Rattle.stab_sampler.proofs.GoLemmas.{go-as, go-one, go-two, go-controlled, go-observable, go-step}
use Rattle.stab_sampler.proofs.step.propagate_step.Goals as goal

pub returns-in-One-clause-goes : goal.returns-in-One-clause-goes
returns-in-One-clause-goes g c =
    go-as _ _ _ _ (ap (λ s. step_shown s ∷ []) c.in-One.is)
    (go-one c.args.lanes.now c.apply.new.self c.requires.may c.apply.ensures.size c.in-One.gate c.in-One.qubit c.apply.ensures.letters)

pub returns-in-Two-clause-goes : goal.returns-in-Two-clause-goes
returns-in-Two-clause-goes g c =
    go-as _ _ _ _ (ap (λ s. step_shown s ∷ []) c.in-Two.is)
    (go-two c.args.lanes.now c.apply_pair.new.self c.requires.may c.apply_pair.ensures.size c.in-Two.gate c.in-Two.first c.in-Two.second c.apply_pair.ensures.letters)

pub returns-in-Controlled-clause-goes : goal.returns-in-Controlled-clause-goes
returns-in-Controlled-clause-goes g c =
    go-as _ _ _ _ (ap (λ s. step_shown s ∷ []) c.in-Controlled.is)
    (go-controlled c.args.lanes.now c.multiply_letter.new.self c.requires.may c.multiply_letter.ensures.size c.in-Controlled.letter c.in-Controlled.k c.in-Controlled.qubit
    c.looked_up-controls.result c.as_slice.result.now c.as_slice.ensures.value c.looked_up-controls.ensures.value c.multiply_letter.ensures.letters)

pub returns-in_ok-propagate_detector-in-Detector-clause-goes : goal.returns-in_ok-propagate_detector-in-Detector-clause-goes
returns-in_ok-propagate_detector-in-Detector-clause-goes g c =
    go-as _ _ _ _ (ap (λ s. step_shown s ∷ []) c.in-Detector.is)
    (c.in_ok-propagate_detector-in-Detector.ensures.goes c.args.recorded_pivots (g.D.Draw.sequences c.args.draw.now) c.requires.may)

pub returns-in_ok-push-in-Observable-clause-goes : goal.returns-in_ok-push-in-Observable-clause-goes
returns-in_ok-push-in-Observable-clause-goes g c =
    go-as _ _ _ _ (ap (λ s. step_shown s ∷ []) c.in-Observable.is)
    (go-observable c.in-Observable.lookbacks.now c.args.lanes.now _ c.parity-flips.result c.as_slice-in-Observable.result.now c.requires.may
    c.as_slice-in-Observable.ensures.value c.parity-flips.ensures.value c.in-Observable.observable refl c.in_ok-push-in-Observable.ensures.items)

pub returns-in_ok-push_when-in-Collapse-clause-goes : goal.returns-in_ok-push_when-in-Collapse-clause-goes
returns-in_ok-push_when-in-Collapse-clause-goes g c =
    let at = g.W.Word.at in
    let recorded_pivots = c.args.recorded_pivots in
    let coins = g.D.Draw.sequences c.args.draw.now in
    let old = c.args.lanes.now in
    let mid = c.decide.new.lanes in
    let letter = c.in-Collapse.letter in
    let qubit = c.in-Collapse.qubit in
    let done = c.in_ok-flips-in-Collapse.ensures in
    go-as _ _ _ _ (ap (λ s. step_shown s ∷ []) c.in-Collapse.is)
    (go-step (collapse letter qubit c.in-Collapse.recorded c.in-Collapse.inverted c.in-Collapse.reset) old mid _ done.may done.coin c.reset_if.ensures.size refl refl
    (λ l lt.
    let flip = at c.in_ok-flips-in-Collapse.flips l in
    follows-collapse recorded_pivots.strings.now.qubits (lane_pivots recorded_pivots (coins l)) (lane_difference at l old) _ letter qubit
    c.in-Collapse.recorded c.in-Collapse.inverted c.in-Collapse.reset (at c.anticommuting_letter-anticommuting.result l) flip (lane_difference at l mid)
    (c.anticommuting_letter-anticommuting.ensures.value l lt
    ∙ ap (λ k. strings_anticommute (lane_letters at l old.frames.letters.items) (single k qubit letter).letters) c.requires.may.frames)
    (done.measures l lt)
    (c.reset_if.ensures.letters l lt
    ∙ ap (λ k. times_where (c.in-Collapse.reset && flip) (single k qubit (flip_of letter)).letters (lane_letters at l mid.frames.letters.items)) done.may.frames)
    (λ i. record (lane_output at l mid) {
      records = (ap (lane_bits at l) c.in_ok-push_when-in-Collapse.ensures.value
          ∙ bits-when at l mid.records.items c.in-Collapse.recorded c.in_ok-flips-in-Collapse.flips flip refl) i;
    }) done.coin))

pub returns-in_ok-push-in-Product-clause-goes : goal.returns-in_ok-push-in-Product-clause-goes
returns-in_ok-push-in-Product-clause-goes g c =
    let at = g.W.Word.at in
    let recorded_pivots = c.args.recorded_pivots in
    let coins = g.D.Draw.sequences c.args.draw.now in
    let old = c.args.lanes.now in
    let mid = c.decide-in-Product.new.lanes in
    let factors = c.in-Product.factors.now in
    let done = c.in_ok-flips-in-Product.ensures in
    go-as _ _ _ _ (ap (λ s. step_shown s ∷ []) c.in-Product.is)
    (go-step (product factors c.in-Product.inverted) old mid _ done.may done.coin refl refl refl
    (λ l lt.
    let flip = at c.in_ok-flips-in-Product.flips l in
    follows-product recorded_pivots.strings.now.qubits (lane_pivots recorded_pivots (coins l)) (lane_difference at l old) _ factors c.in-Product.inverted
    (at c.anticommuting_factors-anticommuting.result l) flip (lane_difference at l mid)
    (c.anticommuting_factors-anticommuting.ensures.value l lt
    ∙ ap (λ k. strings_anticommute (lane_letters at l old.frames.letters.items) (string_of k factors).letters) c.requires.may.frames)
    (done.measures l lt) refl
    (λ i. record (lane_output at l mid) {
      records = (ap (lane_bits at l) c.in_ok-push-in-Product.ensures.items
          ∙ bits-when at l mid.records.items true c.in_ok-flips-in-Product.flips flip refl) i;
    }) done.coin))
