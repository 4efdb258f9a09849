use Rattle.stab_items.proofs.Names.{◌≤◌, length, arith, []}
use Rattle.stab_items.proofs.WalkLemmas.{next_round, next_round_less, left_out, left_out_less, left_walk, at_end}
use Rattle.stab_items.proofs.walk.Walk.leave.Goals as goal

pub returns-then-self-gt0-clause-goes : goal.returns-then-self-gt0-clause-goes
returns-then-self-gt0-clause-goes c =
    (next_round c.args.self.now.top _ c.requires.done c.if-self-gt0.true, next_round_less c.args.self.now.top _ c.requires.done c.if-self-gt0.true)

pub returns-in-Some-clause-walks : goal.returns-in-Some-clause-walks
returns-in-Some-clause-walks c = left_walk c.args.self.now _ c.requires.walks c.in-Some.ensures.items c.pop.ensures.capacity

pub returns-in-Some-clause-goes : goal.returns-in-Some-clause-goes
returns-in-Some-clause-goes c =
    (left_out _ c.args.self.now.top c.in-Some.level _ _ c.requires.done c.if-self-gt0.false c.in-Some.ensures.items, left_out_less c.args.self.now.top c.in-Some.level _ _ c.in-Some.ensures.items)

pub returns-in-None-clause-goes : goal.returns-in-None-clause-goes
returns-in-None-clause-goes c =
    let w = c.args.self.now in
    let empty : length w.around.items ≤ 0 = omega (arith, c.in-None.ensures.cases.0, w.around.ok.0) in
    let none : length c.pop.new.self.items ≤ 0 = omega (arith, c.in-None.ensures.cases.1, c.pop.new.self.ok.0) in
    (at_end [] w.top w.around.items c.requires.done c.if-self-gt0.false empty, at_end [] w.top c.pop.new.self.items c.requires.done c.if-self-gt0.false none)
