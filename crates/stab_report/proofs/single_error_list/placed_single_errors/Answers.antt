use Rattle.stab_report.proofs.Names.{◌≡◌, ◌∙◌, ◌++◌, ◌+◌, suc, sym, ap, length, map, append_assoc, append-nil, arith, flat_map, step_shown, circuit_items, single_errors_from, single_errors_on, sites_at}
use Rattle.stab_items.proofs.SummaryLemmas.{few_steps}
use Rattle.stab_report.specs.PlacedSingleErrors.{single_error_placed}
use Rattle.stab_report.proofs.single_error_list.placed_single_errors.Goals as goal

pub steps-init : goal.steps-init
steps-init c =
    let same = c.in_ok-cursor.ensures.steps in record {
      count = omega (arith, ap length same);
      single_errors = ap (single_errors_from c.args.everywhere 0) (sym same) ∙ ap (λ fs. map single_error_placed fs ++ single_errors_from c.args.everywhere 0 c.in_ok-cursor.cursor.left) (sym c.new-single_errors.ensures.items);
    }

pub push_step-requires : goal.push_step-requires
push_step-requires c = record { few = omega (arith, c.steps.invariant.count, few_steps (circuit_items c.args.circuit.now) c.requires.checked) }

pub overflow_add-number : goal.overflow_add-number
overflow_add-number c = record { fits = omega (arith, c.steps.invariant.count, few_steps (circuit_items c.args.circuit.now) c.requires.checked) }

pub steps-preserved : goal.steps-preserved
steps-preserved c =
    let step = step_shown c.in-Some.step in
    let later = c.next.new.self.left in
    let old = map single_error_placed c.steps.single_errors.items in
    let here = flat_map (single_errors_on c.steps.number) (sites_at c.args.everywhere step) in
    let rest = single_errors_from c.args.everywhere (c.steps.number + 1) later in
    let one_less : length c.steps.cursor.left ≡ suc (length later) = ap length c.in-Some.ensures.some in
    record {
      count = omega (arith, c.steps.invariant.count, one_less);
      single_errors = c.steps.invariant.single_errors
          ∙ ap (λ xs. old ++ single_errors_from c.args.everywhere c.steps.number xs) c.in-Some.ensures.some
          ∙ sym (append_assoc old here rest)
          ∙ ap (λ fs. fs ++ rest) (sym c.in_ok-push_step.ensures.single_errors);
    }

pub returns-clause-value : goal.returns-clause-value
returns-clause-value c =
    let old = map single_error_placed c.steps.single_errors.items in
    sym (append-nil old) ∙ ap (λ xs. old ++ single_errors_from c.args.everywhere c.steps.number xs) (sym c.in_default.ensures.none.0) ∙ sym c.steps.invariant.single_errors
