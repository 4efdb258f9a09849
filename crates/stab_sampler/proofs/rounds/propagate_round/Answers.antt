use Rattle.stab_sampler.proofs.Names.{arith, subst, take, unroll, circuit_items, check-steps, check-whole, following-later, following-more, ArePropagated}
use Rattle.stab_sampler.proofs.rounds.propagate_round.Goals as goal

pub overflow_mul-from : goal.overflow_mul-from
overflow_mul-from g c =
    let items = circuit_items c.args.circuit.now in
    omega (
      arith,
      following-later c.args.repeat c.args.done c.args.repeat.rounds (omega (arith, c.requires.within)),
      c.requires.repeat.inside,
      check-steps items (check-whole c.args.recorded_pivots.strings.now.qubits items c.requires.checked),
    )

pub overflow_add-from : goal.overflow_add-from
overflow_add-from g c =
    let items = circuit_items c.args.circuit.now in
    omega (
      arith,
      following-later c.args.repeat c.args.done c.args.repeat.rounds (omega (arith, c.requires.within)),
      c.requires.repeat.inside,
      check-steps items (check-whole c.args.recorded_pivots.strings.now.qubits items c.requires.checked),
    )

pub returns-clause-checkpoint : goal.returns-clause-checkpoint
returns-clause-checkpoint g c =
    let coins = g.D.Draw.sequences c.args.draw.now in
    let steps = unroll (circuit_items c.args.circuit.now) in
    let advanced = (c.in_ok-now.ensures {u = tt}).go_on coins steps c.requires.repeat c.requires.checkpoint
    (subst (λ k. ArePropagated g.W.Word.at g.W.Word.lanes c.args.recorded_pivots coins (take k steps) c.propagate_along.new.lanes) (following-more c.args.repeat c.args.done)
    (c.in_ok-propagate_along.ensures {u = tt}).advanced) in
    (c.in_ok-keep_checkpoint.ensures {u = tt}).stored_after c.args.recorded_pivots coins steps advanced c.requires.checkpoint

pub returns-clause-advanced : goal.returns-clause-advanced
returns-clause-advanced g c =
    let coins = g.D.Draw.sequences c.args.draw.now in
    let steps = unroll (circuit_items c.args.circuit.now) in
    let r = c.args.repeat in
    (c.in_ok-now.ensures {u = tt}).go_on coins steps c.requires.repeat c.requires.checkpoint
    (subst (λ k. ArePropagated g.W.Word.at g.W.Word.lanes c.args.recorded_pivots coins (take k steps) c.propagate_along.new.lanes) (following-more r c.args.done)
    (c.in_ok-propagate_along.ensures {u = tt}).advanced)
