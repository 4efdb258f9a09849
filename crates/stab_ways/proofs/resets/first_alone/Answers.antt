use Rattle.stab_ways.proofs.Names.{sym, subst, length, map, arith, measured, EndsTogether, IsFront}
use Rattle.stab_ways.proofs.ResetLemmas.{front-mapped, together-first}
use Rattle.stab_ways.proofs.resets.first_alone.Goals as goal

pub returns-clause-front : goal.returns-clause-front
returns-clause-front c =
    subst (λ ts. IsFront (map (measured c.args.measurement) ts) (map (measured c.args.measurement) c.args.targets.now)) (sym c.split_at.ensures.front)
    (front-mapped c.args.measurement c.args.targets.now 1 (omega arith) (omega (arith, c.requires)))

pub returns-clause-together : goal.returns-clause-together
returns-clause-together c = λ flips.
    subst (λ ts. EndsTogether (length c.args.letters.now) (map (measured c.args.measurement) ts) (record { letters = c.args.letters.now; flips = flips })) (sym c.split_at.ensures.front)
    (together-first (length c.args.letters.now) c.args.measurement c.args.targets.now (record { letters = c.args.letters.now; flips = flips }))
