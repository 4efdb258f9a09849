use Rattle.stab_commands.proofs.Names.{Err, err_from_is_err_and, circuit_items, IsSearchedText}
use Rattle.stab_report.specs.Distances.{IsErrorsText}
use Rattle.stab_commands.proofs.DistanceLaws.{refused_handed}
use Rattle.stab_commands.proofs.EndingLaws.{heard_over}
use Rattle.stab_commands.proofs.FoundLaws.{found_as}
use Rattle.stab_commands.proofs.searched.send_searched_errors.Goals as goal

pub returns-in_err-errors-clause-goes_on : goal.returns-in_err-errors-clause-goes_on
returns-in_err-errors-clause-goes_on g c =
    let items = circuit_items c.args.circuit.now in
    refused_handed (IsSearchedText c.args.layout c.args.options items) c.args.options.deterministic_only items c.in_err-errors.field-0.0 c.from_residual.result (g.O.Output.seen c.args.out.now)
    c.from_residual.ensures.1 c.in_err-errors.ensures.refused

pub returns-in_err-send_layout-clause-goes_on : goal.returns-in_err-send_layout-clause-goes_on
returns-in_err-send_layout-clause-goes_on g c =
    let items = circuit_items c.args.circuit.now in
    let errors = c.in_ok-errors.errors in
    let sent = found_as {T = Unit {0}} (IsErrorsText c.args.layout items errors) (IsSearchedText c.args.layout c.args.options items) (g.O.Output.seen c.args.out.now) (g.O.Output.seen c.send_layout.new.out)
    (Err c.in_err-send_layout.field-0.0) (λ bytes is. (errors, c.in_ok-errors.ensures.found, is)) c.in_err-send_layout.ensures.sends in
    let reported = err_from_is_err_and c.from_residual-in_err-send_layout.result c.from_residual-in_err-send_layout.ensures.1 in
    rw (reported.1, reported.2) sent

pub returns-in_err-send_layout-clause-reported : goal.returns-in_err-send_layout-clause-reported
returns-in_err-send_layout-clause-reported g c =
    heard_over c.args.options (circuit_items c.args.circuit.now) c.in_ok-errors.errors (g.P.Progress.heard c.args.progress.now) (g.P.Progress.heard c.begins.new.self) c.len.result c.in_ok-errors.ensures.found c.len.ensures.value
    c.begins.ensures.hears

pub returns-clause-goes_on : goal.returns-clause-goes_on
returns-clause-goes_on g c =
    let sent = c.in_ok-send_layout.ensures.sends in
    (sent.0, (c.in_ok-errors.errors, c.in_ok-errors.ensures.found, sent.1), sent.2)

pub returns-clause-reported : goal.returns-clause-reported
returns-clause-reported g c =
    heard_over c.args.options (circuit_items c.args.circuit.now) c.in_ok-errors.errors (g.P.Progress.heard c.args.progress.now) (g.P.Progress.heard c.begins.new.self) c.len.result c.in_ok-errors.ensures.found c.len.ensures.value
    c.begins.ensures.hears
