use Rattle.stab_sampler.proofs.Names.{◌≤◌, arith, subst, ◌∙◌, get_or, take, Repeat, unroll, circuit_items, check-steps, check-whole, after_rounds, repeat-here, repeats-following, ArePropagated}
use Rattle.stab_sampler.proofs.rounds.propagate_blocks.Goals as goal

abbrev none : Repeat
none = record { first = 0; length = 0; rounds = 0; window = 0 }

pub taken_together-requires-clause-some : goal.taken_together-requires-clause-some
taken_together-requires-clause-some g c =
    (repeat-here c.loop-repeat.from (unroll (circuit_items c.args.circuit.now)) c.args.repeats.now c.loop-repeat.repeat-index none c.loop-repeat-test.true
    c.loop-repeat.invariant.repeats).1.some

pub taken_together-requires-clause-few : goal.taken_together-requires-clause-few
taken_together-requires-clause-few g c =
    let items = circuit_items c.args.circuit.now in
    let here = repeat-here c.loop-repeat.from (unroll items) c.args.repeats.now c.loop-repeat.repeat-index none c.loop-repeat-test.true c.loop-repeat.invariant.repeats in
    omega (arith, here.1.inside, check-steps items (check-whole c.args.recorded_pivots.strings.now.qubits items c.requires.checked))

pub propagate_block-requires-clause-before : goal.propagate_block-requires-clause-before
propagate_block-requires-clause-before g c =
    let here = repeat-here c.loop-repeat.from (unroll (circuit_items c.args.circuit.now)) c.args.repeats.now c.loop-repeat.repeat-index none c.loop-repeat-test.true
    c.loop-repeat.invariant.repeats in
    omega (arith, here.0, c.taken_together.ensures.first)

pub propagate_block-requires-clause-repeat : goal.propagate_block-requires-clause-repeat
propagate_block-requires-clause-repeat g c =
    let steps = unroll (circuit_items c.args.circuit.now) in
    let here = repeat-here c.loop-repeat.from steps c.args.repeats.now c.loop-repeat.repeat-index none c.loop-repeat-test.true c.loop-repeat.invariant.repeats in
    c.taken_together.ensures.repeat steps here.1

pub loop-repeat-preserved : goal.loop-repeat-preserved
loop-repeat-preserved g c =
    let inv = c.loop-repeat.invariant in
    let done = c.in_ok-from.ensures {u = tt} in
    let steps = unroll (circuit_items c.args.circuit.now) in
    let all = c.args.repeats.now in
    let i = c.loop-repeat.repeat-index in
    let from = c.loop-repeat.from in
    let next = c.in_ok-from.from in
    let here = repeat-here from steps all i none c.loop-repeat-test.true inv.repeats in
    let before : next ≤ after_rounds (get_or all i none) (get_or all i none).rounds =
    omega (arith, done.next, c.taken_together.ensures.first, c.taken_together.ensures.within) in
    record {
      within = omega (arith, before, here.1.inside);
      repeats = repeats-following from next steps all i none c.loop-repeat-test.true inv.repeats before;
      same_coins = c.propagate_block.ensures.same_coins ∙ inv.same_coins;
      advanced =
          subst (λ coins. ArePropagated g.W.Word.at g.W.Word.lanes c.args.recorded_pivots coins (take next steps) c.propagate_block.new.lanes) inv.same_coins done.advanced;
    }
