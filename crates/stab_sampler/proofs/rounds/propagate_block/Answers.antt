use Rattle.stab_sampler.proofs.Names.{arith, circuit_items, check-steps, check-whole, following-later}
use Rattle.stab_sampler.proofs.rounds.propagate_block.Goals as goal

pub overflow_mul-result : goal.overflow_mul-result
overflow_mul-result g c =
    let items = circuit_items c.args.circuit.now in
    let later = following-later c.args.repeat c.in_ok-done.done c.args.repeat.rounds c.in_ok-done.ensures.within in
    omega (arith, later, c.requires.repeat.inside, check-steps items (check-whole c.args.recorded_pivots.strings.now.qubits items c.requires.checked))

pub overflow_add-result : goal.overflow_add-result
overflow_add-result g c =
    let items = circuit_items c.args.circuit.now in
    let later = following-later c.args.repeat c.in_ok-done.done c.args.repeat.rounds c.in_ok-done.ensures.within in
    omega (arith, later, c.requires.repeat.inside, check-steps items (check-whole c.args.recorded_pivots.strings.now.qubits items c.requires.checked))
