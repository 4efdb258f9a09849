use Rattle.stab_ways.proofs.Names.{sym, subst, length, map, one, controlled_step, detector, lookbacks_of, step_shown, steps_shown, EndsTogether}
use Rattle.stab_ways.proofs.ResetLemmas.{front-same, gates-leave, pairs-leave, detectors-leave, together-all, together-one}
use Rattle.stab_ways.proofs.resets.at_once.Goals as goal

pub returns-in-Gates-clause-front : goal.returns-in-Gates-clause-front
returns-in-Gates-clause-front c = front-same (steps_shown c.args.steps) c.requires.some

pub returns-in-Gates-clause-together : goal.returns-in-Gates-clause-together
returns-in-Gates-clause-together c = λ flips.
    let n = length c.args.letters.now in
    subst (λ s. EndsTogether n (steps_shown s) (record { letters = c.args.letters.now; flips = flips })) (sym c.in-Gates.is)
    (together-all n (map (one c.in-Gates.field-0) c.in-Gates.field-1.now) (gates-leave n c.in-Gates.field-0 c.in-Gates.field-1.now) (record { letters = c.args.letters.now; flips = flips }))

pub returns-in-Pairs-clause-front : goal.returns-in-Pairs-clause-front
returns-in-Pairs-clause-front c = front-same (steps_shown c.args.steps) c.requires.some

pub returns-in-Pairs-clause-together : goal.returns-in-Pairs-clause-together
returns-in-Pairs-clause-together c = λ flips.
    let n = length c.args.letters.now in
    subst (λ s. EndsTogether n (steps_shown s) (record { letters = c.args.letters.now; flips = flips })) (sym c.in-Pairs.is)
    (together-all n (map (controlled_step c.in-Pairs.field-0) c.in-Pairs.field-1.now) (pairs-leave n c.in-Pairs.field-0 c.in-Pairs.field-1.now) (record { letters = c.args.letters.now; flips = flips }))

pub returns-in-Detectors-clause-front : goal.returns-in-Detectors-clause-front
returns-in-Detectors-clause-front c = front-same (steps_shown c.args.steps) c.requires.some

pub returns-in-Detectors-clause-together : goal.returns-in-Detectors-clause-together
returns-in-Detectors-clause-together c = λ flips.
    let n = length c.args.letters.now in
    subst (λ s. EndsTogether n (steps_shown s) (record { letters = c.args.letters.now; flips = flips })) (sym c.in-Detectors.is)
    (together-all n (map detector (lookbacks_of c.in-Detectors.field-0)) (detectors-leave n (lookbacks_of c.in-Detectors.field-0)) (record { letters = c.args.letters.now; flips = flips }))

pub returns-in-Single-clause-front : goal.returns-in-Single-clause-front
returns-in-Single-clause-front c = front-same (steps_shown c.args.steps) c.requires.some

pub returns-in-Single-clause-together : goal.returns-in-Single-clause-together
returns-in-Single-clause-together c = λ flips.
    let n = length c.args.letters.now in
    subst (λ s. EndsTogether n (steps_shown s) (record { letters = c.args.letters.now; flips = flips })) (sym c.in-Single.is)
    (together-one n (step_shown c.in-Single.field-0) (record { letters = c.args.letters.now; flips = flips }))
