use Rattle.stab_ways.proofs.Names.{◌∙◌, ◌-◌, refl, sym, length, take, drop, steps_of, frame_at, is_tick, walk_shown}
use Rattle.stab_ways.proofs.WalkLemmas.{reported-preserved}
use Rattle.stab_ways.proofs.walk.report_steps.Goals as goal

pub returns-then-keeps_strings-clause-reported : goal.returns-then-keeps_strings-clause-reported
returns-then-keeps_strings-clause-reported c =
    let n = length c.args.walk.now.propagation.letters in
    let ys = take (c.args.to - c.args.from) (drop c.args.from (steps_of c.args.kind.now)) in
    c.in_ok-past_steps.ensures.passed
    ∙ sym (reported-preserved n (record { tick = is_tick c.args.kind.now; steps = ys }) (walk_shown c.args.walk.now) c.requires.turns refl
    (c.keeps_strings.ensures.keeps c.if-keeps_strings.true n (c.args.to - c.args.from) c.args.from (frame_at 0 c.args.walk.now.propagation)))
