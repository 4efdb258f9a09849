use Rattle.stab_items.proofs.Names.{◌*◌, ap, length, arith, OneItem, before, done, listed, unroll}
use Rattle.stab_items.proofs.FinerLemmas.{block-steps}
use Rattle.stab_items.proofs.circuit.repeats.add_repeat.Goals as goal

pub repeat_of-requires-clause-few : goal.repeat_of-requires-clause-few
repeat_of-requires-clause-few c =
    let all = ap (λ (x : OneItem). length (unroll (before x done))) c.in-Block.ensures.value in
    let times = ap (λ k. k * length (unroll (listed c.in-Block.body.now))) c.number-rounds.ensures.value in
    omega (arith, c.requires.few, all, block-steps c.in-Block.count c.in-Block.tag.now (listed c.in-Block.body.now), times)
