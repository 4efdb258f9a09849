use Rattle.stab_commands.proofs.Names.{◌∙◌, err_from_is_err_and, sym, subst, All, ◌<◌, length, unroll, circuit_items, false}
use Rattle.stab_commands.specs.Checks.{check_text}
use Rattle.stab_commands.proofs.EndingLaws.{check_handed, check_unsent, untold}
use Rattle.stab_report.specs.DoubtLines.{ReportsDoubts, doubts_of}
use Rattle.stab_commands.proofs.check.send_check.Goals as goal

pub returns-in_err-doubts-clause-sends : goal.returns-in_err-doubts-clause-sends
returns-in_err-doubts-clause-sends g c =
    check_unsent (check_text (circuit_items c.args.circuit.now)) (g.O.Output.seen c.args.out.now) c.in_err-doubts.field-0.0 c.from_residual.result c.in_err-doubts.ensures.err c.from_residual.ensures.1

pub returns-in_err-doubts-clause-reports : goal.returns-in_err-doubts-clause-reports
returns-in_err-doubts-clause-reports g c =
    let items = circuit_items c.args.circuit.now in
    let reported = err_from_is_err_and c.from_residual.result c.from_residual.ensures.1 in
    untold items (doubts_of false items) (g.E.Output.seen c.args.err.now) c.from_residual.result reported.0 reported.1

pub returns-in_err-send_numbers-clause-sends : goal.returns-in_err-send_numbers-clause-sends
returns-in_err-send_numbers-clause-sends g c =
    check_handed (check_text (circuit_items c.args.circuit.now)) (g.O.Output.seen c.args.out.now) (g.O.Output.seen c.send_numbers.new.out) c.in_err-send_numbers.field-0.0 c.from_residual-in_err-send_numbers.result
    c.in_err-send_numbers.ensures.sends c.from_residual-in_err-send_numbers.ensures.1

pub returns-in_err-send_numbers-clause-reports : goal.returns-in_err-send_numbers-clause-reports
returns-in_err-send_numbers-clause-reports g c =
    let items = circuit_items c.args.circuit.now in
    let reported = err_from_is_err_and c.from_residual-in_err-send_numbers.result c.from_residual-in_err-send_numbers.ensures.1 in
    untold items (doubts_of false items) (g.E.Output.seen c.args.err.now) c.from_residual-in_err-send_numbers.result reported.0 reported.1

pub report_doubts-requires-clause-inside : goal.report_doubts-requires-clause-inside
report_doubts-requires-clause-inside g c =
    subst (All (λ m. m.step < length (unroll (circuit_items c.args.circuit.now)))) (sym c.as_slice.ensures.value) c.in_ok-doubts.ensures.inside

pub returns-clause-reports : goal.returns-clause-reports
returns-clause-reports g c =
    subst (λ ms. ReportsDoubts (circuit_items c.args.circuit.now) ms (g.E.Output.seen c.args.err.now) (g.E.Output.seen c.report_doubts.new.err)) (c.as_slice.ensures.value ∙ c.in_ok-doubts.ensures.value) c.report_doubts.ensures.reports
