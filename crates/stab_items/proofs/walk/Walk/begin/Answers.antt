use Rattle.stab_items.proofs.Names.{arith, ap, sym, ◌∙◌, repeat, listed}
use Rattle.stab_items.proofs.WalkLemmas.{goes_in, goes_past}
use Rattle.stab_items.proofs.walk.Walk.begin.Goals as goal

pub returns-then-stored-gt0-clause-goes : goal.returns-then-stored-gt0-clause-goes
returns-then-stored-gt0-clause-goes c =
    goes_in c.args.self.now c.take.new.self c.enter.new.self c.args.item.now c.number.result c.in-Block.tag.now c.in-Block.body c.requires.given c.take.ensures.same c.take.ensures.taken
    (c.in-Block.ensures.value ∙ ap (λ n. repeat n c.in-Block.tag.now (listed c.in-Block.body.now)) (sym c.number.ensures.value))
    c.number.ensures.some c.enter.ensures.same c.enter.ensures.ahead c.enter.ensures.weight

pub returns-else-stored-gt0-clause-goes : goal.returns-else-stored-gt0-clause-goes
returns-else-stored-gt0-clause-goes c =
    goes_past c.args.self.now c.take.new.self c.args.item.now c.in-Block.count c.in-Block.tag.now (listed c.in-Block.body.now) c.requires.given c.take.ensures.same c.take.ensures.taken c.in-Block.ensures.value
    (omega (arith, c.if-stored-gt0.false, ap (λ s. s.steps) c.in-Block.ensures.stored.0))
