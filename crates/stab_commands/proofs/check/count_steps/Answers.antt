use Rattle.stab_commands.proofs.Names.{ap, arith, unroll, detectors_of, step_shown, circuit_items, coins-steps, all_coins_of}
use Rattle.stab_items.proofs.CountLemmas.{detectors_few, detectors_more}
use Rattle.stab_items.proofs.SummaryLemmas.{few_steps}
use Rattle.stab_commands.proofs.check.count_steps.Goals as goal

pub overflow_add-all : goal.overflow_add-all
overflow_add-all c =
    let steps = unroll (circuit_items c.args.circuit.now) in
    record { fits = omega (arith, c.steps.invariant.0, ap detectors_of c.in-Some.ensures.some, detectors_more (step_shown c.in-Some.step) c.next.new.self.left, c.step_tally-one.ensures.detectors, detectors_few steps, few_steps (circuit_items c.args.circuit.now) c.requires.checked) }

pub overflow_add-all-in-Some : goal.overflow_add-all-in-Some
overflow_add-all-in-Some c =
    let steps = unroll (circuit_items c.args.circuit.now) in
    record { fits = omega (arith, c.steps.invariant.1, ap all_coins_of c.in-Some.ensures.some, c.step_tally-one.ensures.coins, coins-steps steps, few_steps (circuit_items c.args.circuit.now) c.requires.checked) }
