use Rattle.stab_ways.proofs.Names.{refl, sym, subst, All-take, length, map, take, measured, MeasureTarget, ◌<◌, EndsTogether, IsFront}
use Rattle.stab_ways.proofs.ResetLemmas.{front-mapped, together-random}
use Rattle.stab_ways.proofs.resets.without_letters.Goals as goal
use Rattle.stab_frames.proofs.StillPropagationLemmas.{targets-fit}

pub returns-clause-front : goal.returns-clause-front
returns-clause-front c =
    subst (λ ts. IsFront (map (measured c.args.measurement) ts) (map (measured c.args.measurement) c.args.targets.now)) (sym c.split_at.ensures.front)
    (front-mapped c.args.measurement c.args.targets.now c.args.count c.requires.some c.requires.within)

pub returns-clause-together : goal.returns-clause-together
returns-clause-together c = λ flips.
    let n = length c.args.letters.now in
    let ts = c.args.targets.now in
    subst (λ us. EndsTogether n (map (measured c.args.measurement) us) (record { letters = c.args.letters.now; flips = flips })) (sym c.split_at.ensures.front)
    (together-random n c.args.measurement (take c.args.count ts) (record { letters = c.args.letters.now; flips = flips }) refl
    (All-take (λ (t : MeasureTarget). t.qubit < n) c.args.count ts (targets-fit n c.args.measurement ts c.requires.fits)) c.requires.none)
