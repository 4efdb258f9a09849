use Rattle.stab_error_model.proofs.Names.{◌+◌, ◌++◌, sym, ap, subst, [], true, length, append-nil, arith, length-append, All-nil, few_steps, step_shown, unroll, circuit_items, single_errors_from, single_errors_of, errors_at, errors_from, ErrorStands, HasFrom, IsUnderWay, step_single_errors}
use Rattle.stab_error_model.proofs.ErrorListLemmas.{under-way-all, under-way-more}
use Rattle.stab_error_model.proofs.EverywhereLemmas.{makes-few}
use Rattle.stab_error_model.proofs.everywhere.errors_everywhere.Goals as goal

pub add_step-requires-clause-few : goal.add_step-requires-clause-few
add_step-requires-clause-few c = omega (arith, c.steps.invariant.count, few_steps (circuit_items c.args.circuit.now) c.requires.checked)

pub overflow_add-number : goal.overflow_add-number
overflow_add-number c = record { fits = omega (arith, c.steps.invariant.count, few_steps (circuit_items c.args.circuit.now) c.requires.checked) }

pub overflow_add-records : goal.overflow_add-records
overflow_add-records c = record {
  fits = omega (
    arith,
    c.steps.invariant.records,
    c.steps.invariant.count,
    few_steps (circuit_items c.args.circuit.now) c.requires.checked,
    c.records_made-records.ensures.value,
    makes-few (step_shown c.in-Some.step),
  );
}

pub steps-preserved : goal.steps-preserved
steps-preserved c =
    let all_steps = unroll (circuit_items c.args.circuit.now) in
    let ls = c.args.letters in
    let t = c.steps.number in
    let m = c.steps.records in
    let row = c.steps.row in
    let x = step_shown c.in-Some.step in
    let later = c.next.new.self.left in
    let made = c.records_made-records.result in
    let Is = HasFrom 0 (single_errors_of true all_steps) in
    let all = errors_from ls 0 0 all_steps in
    let now = c.steps.errors.items in
    let here = c.steps.invariant.way in
    let split = subst (λ xs. IsUnderWay Is all (errors_from ls t m xs) row (single_errors_from true t xs) [] now) c.in-Some.ensures.some here in
    let way = subst (λ k. IsUnderWay Is all (errors_at ls t m x ++ errors_from ls (t + 1) (m + k) later) row (step_single_errors t x ++ single_errors_from true (t + 1) later) [] now)
    (sym c.records_made-records.ensures.value) split in
    record {
      count = omega (arith, c.steps.invariant.count, ap length c.in-Some.ensures.some);
      records = omega (arith, c.steps.invariant.records, c.records_made-records.ensures.value, makes-few x);
      rows = omega (
        arith,
        c.steps.invariant.rows,
        ap (λ xs. length (single_errors_from true t xs)) c.in-Some.ensures.some,
        length-append (step_single_errors t x) (single_errors_from true (t + 1) later),
        c.single_errors_at-row.ensures.value t,
      );
      way = under-way-more Is all (errors_at ls t m x) (errors_from ls (t + 1) (m + made) later) row (row + c.single_errors_at-row.result) (step_single_errors t x) (single_errors_from true (t + 1) later)
          [] now c.add_step.new.errors.items (ap (λ k. row + k) (c.single_errors_at-row.ensures.value t)) way c.in_ok-add_step.ensures.adds;
    }

pub returns-clause-stand : goal.returns-clause-stand
returns-clause-stand c =
    let all_steps = unroll (circuit_items c.args.circuit.now) in
    let ls = c.args.letters in
    let F = single_errors_of true all_steps in
    let Is = HasFrom 0 F in
    let all = errors_from ls 0 0 all_steps in
    let way = subst (λ xs. IsUnderWay Is all (errors_from ls c.steps.number c.steps.records xs) c.steps.row (single_errors_from true c.steps.number xs) [] c.steps.errors.items)
    c.in_default.ensures.none.0 c.steps.invariant.way in
    (under-way-all Is all c.steps.row [] [] c.steps.errors.items way).stand F ([], sym (append-nil F)) (All-nil (ErrorStands F))
