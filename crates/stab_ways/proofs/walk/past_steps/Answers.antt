use Rattle.stab_ways.proofs.Names.{◌-◌, refl, drop, steps_of}
use Rattle.stab_ways.proofs.WalkLemmas.{walk-passed}
use Rattle.stab_ways.proofs.walk.past_steps.Goals as goal

pub returns-clause-walks : goal.returns-clause-walks
returns-clause-walks c =
    walk-passed _ (c.args.to - c.args.from) (drop c.args.from (steps_of c.args.kind.now)) c.args.walk.now _ c.requires.walks c.in_ok-pass.ensures.passed c.pass.ensures.length
    c.in_ok-pass.ensures.counted refl
