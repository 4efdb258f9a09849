use Rattle.stab_commands.proofs.Names.{◌∙◌, err_from_is_err_and, refl, inl, sym, subst, All, ◌<◌, length, unroll, circuit_items, IsSearchedText}
use Rattle.stab_commands.proofs.EndingLaws.{errors_heard, errors_unheard, refusal_handed, unsent, unwarned}
use Rattle.stab_report.specs.DoubtLines.{ReportsDoubts}
use Rattle.stab_commands.proofs.searched.run_searched_errors.Goals as goal

pub returns-in_err-circuit-clause-warns : goal.returns-in_err-circuit-clause-warns
returns-in_err-circuit-clause-warns g c =
    let reported = err_from_is_err_and c.from_residual.result c.from_residual.ensures.1 in
    unwarned c.args.options.everywhere (g.I.Input.seen c.args.input.now) (g.I.Input.seen c.read_circuit.new.input) (g.E.Output.seen c.args.err.now) c.from_residual.result reported.0 reported.1

pub returns-in_err-doubts-clause-ends : goal.returns-in_err-doubts-clause-ends
returns-in_err-doubts-clause-ends g c =
    unsent (IsSearchedText c.args.layout c.args.options) c.args.options.deterministic_only (g.I.Input.seen c.args.input.now) (g.I.Input.seen c.read_circuit.new.input) (g.O.Output.seen c.args.out.now)
    (circuit_items c.in_ok-circuit.circuit) c.in_err-doubts.field-0.0 c.from_residual-in_err-doubts.result c.in_ok-circuit.ensures.reads c.in_err-doubts.ensures.err c.from_residual-in_err-doubts.ensures.1

pub returns-in_err-doubts-clause-warns : goal.returns-in_err-doubts-clause-warns
returns-in_err-doubts-clause-warns g c =
    let reported = err_from_is_err_and c.from_residual-in_err-doubts.result c.from_residual-in_err-doubts.ensures.1 in
    unwarned c.args.options.everywhere (g.I.Input.seen c.args.input.now) (g.I.Input.seen c.read_circuit.new.input) (g.E.Output.seen c.args.err.now) c.from_residual-in_err-doubts.result reported.0 reported.1

pub returns-in_err-send_searched_errors-clause-ends : goal.returns-in_err-send_searched_errors-clause-ends
returns-in_err-send_searched_errors-clause-ends g c =
    refusal_handed (IsSearchedText c.args.layout c.args.options) c.args.options.deterministic_only (g.I.Input.seen c.args.input.now) (g.I.Input.seen c.read_circuit.new.input) (g.O.Output.seen c.args.out.now) (g.O.Output.seen c.send_searched_errors.new.out)
    (circuit_items c.in_ok-circuit.circuit) c.in_err-send_searched_errors.field-0.0 c.from_residual-in_err-send_searched_errors.result c.in_ok-circuit.ensures.reads c.in_err-send_searched_errors.ensures.goes_on c.from_residual-in_err-send_searched_errors.ensures.1

pub returns-in_err-send_searched_errors-clause-warns : goal.returns-in_err-send_searched_errors-clause-warns
returns-in_err-send_searched_errors-clause-warns g c =
    let reported = err_from_is_err_and c.from_residual-in_err-send_searched_errors.result c.from_residual-in_err-send_searched_errors.ensures.1 in
    unwarned c.args.options.everywhere (g.I.Input.seen c.args.input.now) (g.I.Input.seen c.read_circuit.new.input) (g.E.Output.seen c.args.err.now) c.from_residual-in_err-send_searched_errors.result reported.0 reported.1

pub report_doubts-requires-clause-inside : goal.report_doubts-requires-clause-inside
report_doubts-requires-clause-inside g c =
    subst (All (λ m. m.step < length (unroll (circuit_items c.in_ok-circuit.circuit)))) (sym c.as_slice.ensures.value) c.in_ok-doubts.ensures.inside

pub returns-clause-ends : goal.returns-clause-ends
returns-clause-ends g c = (circuit_items c.in_ok-circuit.circuit, c.in_ok-circuit.ensures.reads, c.in_ok-send_searched_errors.ensures.goes_on)

pub returns-clause-warns : goal.returns-clause-warns
returns-clause-warns g c =
    let items = circuit_items c.in_ok-circuit.circuit in
    let reports = subst (λ ms. ReportsDoubts items ms (g.E.Output.seen c.args.err.now) (g.E.Output.seen c.report_doubts.new.err)) (c.as_slice.ensures.value ∙ c.in_ok-doubts.ensures.value) c.report_doubts.ensures.reports in
    (items, c.in_ok-circuit.ensures.reads, reports)

pub returns-in_err-circuit-clause-reported : goal.returns-in_err-circuit-clause-reported
returns-in_err-circuit-clause-reported g c =
    errors_unheard c.args.options (g.I.Input.seen c.args.input.now) (g.I.Input.seen c.read_circuit.new.input) (g.P.Progress.heard c.args.progress.now) c.in_err-circuit.field-0.0 c.from_residual.result
    c.in_err-circuit.ensures.reads c.from_residual.ensures.1

pub returns-in_err-doubts-clause-reported : goal.returns-in_err-doubts-clause-reported
returns-in_err-doubts-clause-reported g c =
    let reported = err_from_is_err_and c.from_residual-in_err-doubts.result c.from_residual-in_err-doubts.ensures.1 in
    errors_heard c.args.options (g.I.Input.seen c.args.input.now) (g.I.Input.seen c.read_circuit.new.input) (g.P.Progress.heard c.args.progress.now) (g.P.Progress.heard c.args.progress.now)
    (circuit_items c.in_ok-circuit.circuit) c.from_residual-in_err-doubts.result reported.0 c.in_ok-circuit.ensures.reads (inl refl) reported.1

pub returns-in_err-send_searched_errors-clause-reported : goal.returns-in_err-send_searched_errors-clause-reported
returns-in_err-send_searched_errors-clause-reported g c =
    let reported = err_from_is_err_and c.from_residual-in_err-send_searched_errors.result c.from_residual-in_err-send_searched_errors.ensures.1 in
    errors_heard c.args.options (g.I.Input.seen c.args.input.now) (g.I.Input.seen c.read_circuit.new.input) (g.P.Progress.heard c.args.progress.now) (g.P.Progress.heard c.send_searched_errors.new.progress)
    (circuit_items c.in_ok-circuit.circuit) c.from_residual-in_err-send_searched_errors.result reported.0 c.in_ok-circuit.ensures.reads c.in_err-send_searched_errors.ensures.reported reported.1

pub returns-clause-reported : goal.returns-clause-reported
returns-clause-reported g c = (circuit_items c.in_ok-circuit.circuit, c.in_ok-circuit.ensures.reads, c.in_ok-send_searched_errors.ensures.reported)
