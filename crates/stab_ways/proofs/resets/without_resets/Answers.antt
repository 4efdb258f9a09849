use Rattle.stab_ways.proofs.Names.{length, map, measured}
use Rattle.stab_ways.proofs.ResetLemmas.{front-same, some-mapped, measurements-leave, together-all}
use Rattle.stab_ways.proofs.resets.without_resets.Goals as goal

pub returns-clause-front : goal.returns-clause-front
returns-clause-front c =
    front-same (map (measured c.args.measurement) c.args.targets.now) (some-mapped c.args.measurement c.args.targets.now c.requires.some)

pub returns-clause-together : goal.returns-clause-together
returns-clause-together c = λ flips.
    let n = length c.args.letters.now in
    together-all n (map (measured c.args.measurement) c.args.targets.now) (measurements-leave n c.args.measurement c.args.targets.now c.requires.none)
    (record { letters = c.args.letters.now; flips = flips })
