use Rattle.stab_sampler.proofs.Names.{◌+◌, arith, subst, take, take_all, unroll, circuit_items, check-steps, check-whole, ArePropagated}
use Rattle.stab_sampler.proofs.rounds.propagate_all.Goals as goal

pub returns-clause-advanced : goal.returns-clause-advanced
returns-clause-advanced g c =
    let items = circuit_items c.args.circuit.now in
    let all = c.in_ok-from.from + 18446744073709551615 in
    subst (λ xs. ArePropagated g.W.Word.at g.W.Word.lanes c.args.recorded_pivots (g.D.Draw.sequences c.args.draw.now) xs c.propagate_along.new.lanes)
    (take_all all (unroll items) (omega (arith, check-steps items (check-whole c.args.recorded_pivots.strings.now.qubits items c.requires.checked))))
    (subst (λ coins. ArePropagated g.W.Word.at g.W.Word.lanes c.args.recorded_pivots coins (take all (unroll items)) c.propagate_along.new.lanes)
    c.propagate_blocks.ensures.same_coins (c.in_ok-propagate_along.ensures {u = tt}).advanced)
