use Rattle.stab_items.proofs.Names.{ap, one, controlled_step, measured, steps_of, step_shown}
use Rattle.stab_items.proofs.StepPartLemmas.{part-steps, none_given, some_given}
use Rattle.stab_items.proofs.steps.steps_from.Goals as goal

pub returns-in_ok-part-in-Gate-clause-some : goal.returns-in_ok-part-in-Gate-clause-some
returns-in_ok-part-in-Gate-clause-some c =
    part-steps (one c.in-Gate.gate) c.in-Gate.qubits _ c.in_ok-part-in-Gate.part.now c.args.position c.args.most (steps_of c.args.kind.now)
    (ap steps_of c.in-Gate.is) c.as_slice.ensures.value c.in_ok-part-in-Gate.ensures.value

pub returns-in_ok-part-in-Controlled-clause-some : goal.returns-in_ok-part-in-Controlled-clause-some
returns-in_ok-part-in-Controlled-clause-some c =
    part-steps (controlled_step c.in-Controlled.axis) c.in-Controlled.pairs _ c.in_ok-part-in-Controlled.part.now c.args.position c.args.most (steps_of c.args.kind.now)
    (ap steps_of c.in-Controlled.is) c.as_slice-in-Controlled.ensures.value c.in_ok-part-in-Controlled.ensures.value

pub returns-in_ok-part-in-Measure-clause-some : goal.returns-in_ok-part-in-Measure-clause-some
returns-in_ok-part-in-Measure-clause-some c =
    part-steps (measured c.in-Measure.measurement) c.in-Measure.targets _ c.in_ok-part-in-Measure.part.now c.args.position c.args.most (steps_of c.args.kind.now)
    (ap steps_of c.in-Measure.is) c.as_slice-in-Measure.ensures.value c.in_ok-part-in-Measure.ensures.value

pub returns-in_ok-step-in-Swap-clause-some : goal.returns-in_ok-step-in-Swap-clause-some
returns-in_ok-step-in-Swap-clause-some c = some_given (steps_of c.args.kind.now) c.args.position (step_shown c.in_ok-step-in-Swap.step) c.in_ok-step-in-Swap.ensures.value

pub returns-in_err-step-in-Swap-clause-none : goal.returns-in_err-step-in-Swap-clause-none
returns-in_err-step-in-Swap-clause-none c =
    rw c.from_residual-in_err-step-in-Swap.ensures (none_given (steps_of c.args.kind.now) c.args.position c.in_err-step-in-Swap.ensures.value)
