use Rattle.stab_report.proofs.Names.{ℕ, List, ◌≡◌, refl, subst, ◌∙◌, ◌+◌, ◌*◌, ◌++◌, suc, sym, ap, length, drop, arith, flat_map, WroteUpTo, wrote_none, wrote_part, wrote_and_failed, failed_on, unroll, step_shown, circuit_items, single_errors_from, single_errors_of, single_errors_on, sites_at, table_lines, path_at}
use Rattle.stab_items.proofs.SummaryLemmas.{few_steps}
use Rattle.stab_report.proofs.SingleErrorTextLaws.{length-from, lines_at_step, path_here, stretch_next}
use Rattle.stab_report.proofs.single_error_lines.write_lines.Goals as goal

pub steps-init : goal.steps-init
steps-init g c =
    let rows = c.args.table.now.rows in
    let seen = g.O.Output.seen c.args.out.now in
    let path = path_at (circuit_items c.args.circuit.now) in
    let all = table_lines c.args.kinds path (single_errors_of c.args.everywhere (unroll (circuit_items c.args.circuit.now))) rows in
    record {
      count = omega (arith, ap length c.requires.all);
      rows = omega (arith, c.requires.rows, ap (λ xs. length (single_errors_from c.args.everywhere 0 xs)) c.requires.all);
      stretch = refl;
      wrote = subst (λ xs. WroteUpTo seen seen all (table_lines c.args.kinds path (single_errors_from c.args.everywhere 0 xs) rows)) (sym c.requires.all) (wrote_none seen all);
    }

pub write_step-requires-clause-few : goal.write_step-requires-clause-few
write_step-requires-clause-few g c = omega (arith, c.steps.invariant.count, few_steps (circuit_items c.args.circuit.now) c.requires.checked)

pub write_step-requires-clause-rows : goal.write_step-requires-clause-rows
write_step-requires-clause-rows g c =
    let count : length (single_errors_from c.args.everywhere c.steps.number c.steps.cursor.left) ≡ 2 * length (sites_at c.args.everywhere (step_shown c.in-Some.step)) + length (single_errors_from c.args.everywhere (c.steps.number + 1) c.next.new.self.left) =
    ap (λ xs. length (single_errors_from c.args.everywhere c.steps.number xs)) c.in-Some.ensures.some ∙ length-from c.args.everywhere c.steps.number (step_shown c.in-Some.step) c.next.new.self.left in
    omega (arith, c.steps.invariant.rows, count)

pub returns-in_err-row : goal.returns-in_err-row
returns-in_err-row g c =
    let items = circuit_items c.args.circuit.now in
    let rows = c.args.table.now.rows in
    let step = step_shown c.in-Some.step in
    let number = c.steps.number in
    let later = c.next.new.self.left in
    let kinds = c.args.kinds in
    let everywhere = c.args.everywhere in
    let item = c.item_at-item.result in
    let part = table_lines kinds (λ _. item.path) (flat_map (single_errors_on number) (sites_at everywhere step)) (drop c.steps.row rows) in
    let all = table_lines kinds (path_at items) (single_errors_of everywhere (unroll items)) rows in
    let left = table_lines kinds (path_at items) (single_errors_from everywhere number c.steps.cursor.left) (drop c.steps.row rows) in
    let rest : ℕ → List ℕ = λ row. table_lines kinds (path_at items) (single_errors_from everywhere (number + 1) later) (drop row rows) in
    let path = path_here items number item.steps item.path c.item_at-item.ensures.some c.item_at-item.ensures.found in
    let here = ap (λ xs. table_lines kinds (path_at items) (single_errors_from everywhere number xs) (drop c.steps.row rows)) c.in-Some.ensures.some ∙ lines_at_step kinds (path_at items) everywhere item.path number step later rows c.steps.row path in
    let cut = c.steps.row + 2 * length (sites_at everywhere step) in record {
      writes = failed_on (g.O.Output.seen c.args.out.now) (g.O.Output.seen c.write_step.new.out) all c.in_err-row.field-0.0 c.from_residual.result c.from_residual.ensures.1 c.in_err-row.ensures.writes.0
          (wrote_and_failed all left part (rest cut) here c.steps.invariant.wrote c.in_err-row.ensures.writes.1);
    }

pub overflow_add-number : goal.overflow_add-number
overflow_add-number g c = record { fits = omega (arith, c.steps.invariant.count, few_steps (circuit_items c.args.circuit.now) c.requires.checked) }

pub steps-preserved : goal.steps-preserved
steps-preserved g c =
    let items = circuit_items c.args.circuit.now in
    let rows = c.args.table.now.rows in
    let step = step_shown c.in-Some.step in
    let number = c.steps.number in
    let later = c.next.new.self.left in
    let kinds = c.args.kinds in
    let everywhere = c.args.everywhere in
    let item = c.item_at-item.result in
    let part = table_lines kinds (λ _. item.path) (flat_map (single_errors_on number) (sites_at everywhere step)) (drop c.steps.row rows) in
    let all = table_lines kinds (path_at items) (single_errors_of everywhere (unroll items)) rows in
    let left = table_lines kinds (path_at items) (single_errors_from everywhere number c.steps.cursor.left) (drop c.steps.row rows) in
    let rest : ℕ → List ℕ = λ row. table_lines kinds (path_at items) (single_errors_from everywhere (number + 1) later) (drop row rows) in
    let path = path_here items number item.steps item.path c.item_at-item.ensures.some c.item_at-item.ensures.found in
    let here = ap (λ xs. table_lines kinds (path_at items) (single_errors_from everywhere number xs) (drop c.steps.row rows)) c.in-Some.ensures.some ∙ lines_at_step kinds (path_at items) everywhere item.path number step later rows c.steps.row path in
    let count : length (single_errors_from c.args.everywhere c.steps.number c.steps.cursor.left) ≡ 2 * length (sites_at c.args.everywhere (step_shown c.in-Some.step)) + length (single_errors_from c.args.everywhere (c.steps.number + 1) c.next.new.self.left) =
    ap (λ xs. length (single_errors_from c.args.everywhere c.steps.number xs)) c.in-Some.ensures.some ∙ length-from c.args.everywhere c.steps.number (step_shown c.in-Some.step) c.next.new.self.left in
    let one_less : length c.steps.cursor.left ≡ suc (length later) = ap length c.in-Some.ensures.some in record {
      count = omega (arith, c.steps.invariant.count, one_less);
      rows = omega (arith, c.steps.invariant.rows, count, c.in_ok-row.ensures.next);
      stretch = stretch_next items number item.steps item.path c.item_at-item.ensures.some c.item_at-item.ensures.found;
      wrote = wrote_part all left part (rest c.in_ok-row.row) (here ∙ ap (λ row. part ++ rest row) (sym c.in_ok-row.ensures.next)) c.steps.invariant.wrote c.in_ok-row.ensures.writes;
    }
