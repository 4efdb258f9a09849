use Rattle.stab_commands.proofs.Names.{◌∙◌, err_from_is_err_and, sym, subst, All, ◌<◌, length, unroll, circuit_items, IsTableText}
use Rattle.stab_commands.proofs.EndingLaws.{refusal_handed, unsent, unwarned}
use Rattle.stab_report.specs.DoubtLines.{ReportsDoubts}
use Rattle.stab_commands.proofs.faults.run_faults.Goals as goal

pub returns-in_err-circuit-clause-warns : goal.returns-in_err-circuit-clause-warns
returns-in_err-circuit-clause-warns g c =
    let reported = err_from_is_err_and c.from_residual.result c.from_residual.ensures.1 in
    unwarned c.args.everywhere (g.I.Input.seen c.args.input.now) (g.I.Input.seen c.read_circuit.new.input) (g.E.Output.seen c.args.err.now) c.from_residual.result reported.0 reported.1

pub returns-in_err-doubts-clause-ends : goal.returns-in_err-doubts-clause-ends
returns-in_err-doubts-clause-ends g c =
    unsent (IsTableText c.args.layout c.args.everywhere c.args.deterministic_only) c.args.deterministic_only (g.I.Input.seen c.args.input.now) (g.I.Input.seen c.read_circuit.new.input) (g.O.Output.seen c.args.out.now)
    (circuit_items c.in_ok-circuit.circuit) c.in_err-doubts.field-0.0 c.from_residual-in_err-doubts.result c.in_ok-circuit.ensures.reads c.in_err-doubts.ensures.err c.from_residual-in_err-doubts.ensures.1

pub returns-in_err-doubts-clause-warns : goal.returns-in_err-doubts-clause-warns
returns-in_err-doubts-clause-warns g c =
    let reported = err_from_is_err_and c.from_residual-in_err-doubts.result c.from_residual-in_err-doubts.ensures.1 in
    unwarned c.args.everywhere (g.I.Input.seen c.args.input.now) (g.I.Input.seen c.read_circuit.new.input) (g.E.Output.seen c.args.err.now) c.from_residual-in_err-doubts.result reported.0 reported.1

pub returns-in_err-send_faults-clause-ends : goal.returns-in_err-send_faults-clause-ends
returns-in_err-send_faults-clause-ends g c =
    refusal_handed (IsTableText c.args.layout c.args.everywhere c.args.deterministic_only) c.args.deterministic_only (g.I.Input.seen c.args.input.now) (g.I.Input.seen c.read_circuit.new.input) (g.O.Output.seen c.args.out.now) (g.O.Output.seen c.send_faults.new.out)
    (circuit_items c.in_ok-circuit.circuit) c.in_err-send_faults.field-0.0 c.from_residual-in_err-send_faults.result c.in_ok-circuit.ensures.reads c.in_err-send_faults.ensures.goes_on c.from_residual-in_err-send_faults.ensures.1

pub returns-in_err-send_faults-clause-warns : goal.returns-in_err-send_faults-clause-warns
returns-in_err-send_faults-clause-warns g c =
    let reported = err_from_is_err_and c.from_residual-in_err-send_faults.result c.from_residual-in_err-send_faults.ensures.1 in
    unwarned c.args.everywhere (g.I.Input.seen c.args.input.now) (g.I.Input.seen c.read_circuit.new.input) (g.E.Output.seen c.args.err.now) c.from_residual-in_err-send_faults.result reported.0 reported.1

pub report_doubts-requires-clause-inside : goal.report_doubts-requires-clause-inside
report_doubts-requires-clause-inside g c =
    subst (All (λ m. m.step < length (unroll (circuit_items c.in_ok-circuit.circuit)))) (sym c.as_slice.ensures.value) c.in_ok-doubts.ensures.inside

pub returns-clause-ends : goal.returns-clause-ends
returns-clause-ends g c = (circuit_items c.in_ok-circuit.circuit, c.in_ok-circuit.ensures.reads, c.in_ok-send_faults.ensures.goes_on)

pub returns-clause-warns : goal.returns-clause-warns
returns-clause-warns g c =
    let items = circuit_items c.in_ok-circuit.circuit in
    let reports = subst (λ ms. ReportsDoubts items ms (g.E.Output.seen c.args.err.now) (g.E.Output.seen c.report_doubts.new.err)) (c.as_slice.ensures.value ∙ c.in_ok-doubts.ensures.value) c.report_doubts.ensures.reports in
    (items, c.in_ok-circuit.ensures.reads, reports)
