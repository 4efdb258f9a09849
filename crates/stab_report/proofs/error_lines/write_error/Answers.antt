use Rattle.stab_report.proofs.Names.{◌∙◌, refl, ap, subst, TookAndFailed, WritesAll, failed_on, failed_within, circuit_items, ErrorTable, row, error_shown, single_error_shown, where_text, what_text, numbered_line}
use Rattle.stab_report.proofs.ErrorLineLaws.{found_error, joined-error}
use Rattle.stab_report.proofs.SingleErrorTextLaws.{path_here}
use Rattle.stab_report.proofs.WritingLaws.{writes_after}
use Rattle.stab_report.proofs.error_lines.write_error.Goals as goal

pub returns-in_err-write_where : goal.returns-in_err-write_where
returns-in_err-write_where g c =
    let items = circuit_items c.args.circuit.now in
    let t = c.args.errors.now in
    let k = c.args.number in
    let item = c.item_of_step-item.result in
    let error = error_shown c.error-error.result in
    let is = found_error t.errors k error c.requires.in_range c.error-error.ensures.value in
    let path = path_here items c.step.result item.steps item.path c.item_of_step-item.ensures.some c.item_of_step-item.ensures.path in
    let first = where_text c.before-2.result item.path in
    let second = what_text c.args.kinds error (row t.table.rows k) in
    let text = joined-error items t k c.before-2.result c.step.result c.args.kinds item.path error (single_error_shown c.first-first.result) (row t.table.rows k) c.requires.kinds is c.first-first.ensures.value c.before-2.ensures.value c.step.ensures.value path refl in record {
      writes = failed_on (g.O.Output.seen c.args.out.now) (g.O.Output.seen c.write_where.new.out) (numbered_line items t k) c.in_err-write_where.field-0.0 c.from_residual.result c.from_residual.ensures.1
          c.in_err-write_where.ensures.writes.0
          (subst (λ l. TookAndFailed (g.O.Output.seen c.args.out.now) (g.O.Output.seen c.write_where.new.out) l) text (failed_within first second c.in_err-write_where.ensures.writes.1));
    }

pub returns : goal.returns
returns g c =
    let items = circuit_items c.args.circuit.now in
    let t = c.args.errors.now in
    let k = c.args.number in
    let item = c.item_of_step-item.result in
    let error = error_shown c.error-error.result in
    let is = found_error t.errors k error c.requires.in_range c.error-error.ensures.value in
    let path = path_here items c.step.result item.steps item.path c.item_of_step-item.ensures.some c.item_of_step-item.ensures.path in
    let first = where_text c.before-2.result item.path in
    let second = what_text c.args.kinds error c.row.result.now in
    let text = joined-error items t k c.before-2.result c.step.result c.args.kinds item.path error (single_error_shown c.first-first.result) c.row.result.now c.requires.kinds is c.first-first.ensures.value c.before-2.ensures.value c.step.ensures.value path (c.row.ensures.value ∙ ap (λ (x : ErrorTable). row x.rows k) c.table.ensures.value) in record {
      writes = subst (λ l. WritesAll (g.O.Output.seen c.args.out.now) (g.O.Output.seen c.write_what.new.out) l c.write_what.result) text
          (writes_after (g.O.Output.seen c.write_what.new.out) first second c.write_what.result c.in_ok-write_where.ensures.writes c.write_what.ensures.writes);
    }
