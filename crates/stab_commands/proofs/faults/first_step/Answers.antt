use Rattle.stab_commands.proofs.Names.{◌≡◌, ◌∙◌, ap, length, suc, arith, circuit_items, steps_before_bit}
use Rattle.stab_items.proofs.SummaryLemmas.{few_steps}
use Rattle.stab_report.proofs.RandomLaws.{none_before}
use Rattle.stab_commands.proofs.faults.first_step.Goals as goal

pub steps-init : goal.steps-init
steps-init c =
    let same = c.in_ok-cursor.ensures.steps in
    record { count = omega (arith, ap length same); front = omega (arith, ap (λ xs. length (steps_before_bit c.args.bit xs)) same) }

pub returns-in-None-clause-value : goal.returns-in-None-clause-value
returns-in-None-clause-value c =
    let none : length (steps_before_bit c.steps.sought c.steps.cursor.left) ≡ 0 =
    ap (λ xs. length (steps_before_bit c.steps.sought xs)) c.in-Some.ensures.some ∙ ap length (c.in-None.ensures.passes c.next.new.self.left) in
    omega (arith, c.steps.invariant.front, none)

pub overflow_add-number : goal.overflow_add-number
overflow_add-number c = record { fits = omega (arith, c.steps.invariant.count, few_steps (circuit_items c.args.circuit.now) c.requires.checked) }

pub steps-preserved : goal.steps-preserved
steps-preserved c =
    let one_less : length c.steps.cursor.left ≡ suc (length c.next.new.self.left) = ap length c.in-Some.ensures.some in
    let passed : length (steps_before_bit c.steps.sought c.steps.cursor.left) ≡ suc (length (steps_before_bit c.in-Some-bit_after.rest c.next.new.self.left)) =
    ap (λ xs. length (steps_before_bit c.steps.sought xs)) c.in-Some.ensures.some ∙ ap length (c.in-Some-bit_after.ensures.passes c.next.new.self.left) in
    record { count = omega (arith, c.steps.invariant.count, one_less); front = omega (arith, c.steps.invariant.front, passed) }

pub returns-clause-value : goal.returns-clause-value
returns-clause-value c =
    let none : length (steps_before_bit c.steps.sought c.steps.cursor.left) ≡ 0 =
    ap (λ xs. length (steps_before_bit c.steps.sought xs)) c.in_default.ensures.none.0 ∙ none_before c.steps.sought in
    omega (arith, c.steps.invariant.front, none)
