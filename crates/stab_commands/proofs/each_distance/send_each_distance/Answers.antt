use Rattle.stab_commands.proofs.Names.{◌∙◌, Ok, Err, ap, length, sym, subst, err_from_is_err_and, circuit_items}
use Rattle.stab_report.specs.Distances.{AreDistanceAnswers, IsEachText}
use Rattle.stab_commands.proofs.DistanceLaws.{refused_handed}
use Rattle.stab_commands.proofs.EachLaws.{each_sent}
use Rattle.stab_commands.proofs.EndingLaws.{heard_over, unsent_on}
use Rattle.stab_commands.proofs.each_distance.send_each_distance.Goals as goal

pub returns-in_err-errors-clause-goes_on : goal.returns-in_err-errors-clause-goes_on
returns-in_err-errors-clause-goes_on g c =
    let items = circuit_items c.args.circuit.now in
    refused_handed (IsEachText c.args.options items) c.args.options.deterministic_only items c.in_err-errors.field-0.0 c.from_residual.result (g.O.Output.seen c.args.out.now)
    c.from_residual.ensures.1 c.in_err-errors.ensures.refused

pub returns-in_err-answers-clause-goes_on : goal.returns-in_err-answers-clause-goes_on
returns-in_err-answers-clause-goes_on g c =
    let items = circuit_items c.args.circuit.now in
    unsent_on (IsEachText c.args.options items) c.args.options.deterministic_only items c.in_err-answers.field-0.0 c.from_residual-in_err-answers.result (g.O.Output.seen c.args.out.now)
    c.in_err-answers.ensures.err c.from_residual-in_err-answers.ensures.1

pub returns-in_err-answers-clause-reported : goal.returns-in_err-answers-clause-reported
returns-in_err-answers-clause-reported g c =
    heard_over c.args.options (circuit_items c.args.circuit.now) c.in_ok-errors.errors (g.P.Progress.heard c.args.progress.now) (g.P.Progress.heard c.begins.new.self) c.len.result c.in_ok-errors.ensures.found c.len.ensures.value
    c.begins.ensures.hears

pub send_answers-requires-clause-found : goal.send_answers-requires-clause-found
send_answers-requires-clause-found g c =
    let items = circuit_items c.args.circuit.now in
    subst (AreDistanceAnswers c.args.options items c.in_ok-errors.errors 0) (sym c.as_slice.ensures.value) (c.in_ok-answers.ensures.found items c.in_ok-errors.ensures.found)

pub returns-in_err-send_answers-clause-goes_on : goal.returns-in_err-send_answers-clause-goes_on
returns-in_err-send_answers-clause-goes_on g c =
    let items = circuit_items c.args.circuit.now in
    let distances = subst (AreDistanceAnswers c.args.options items c.in_ok-errors.errors 0) (sym c.as_slice.ensures.value) (c.in_ok-answers.ensures.found items c.in_ok-errors.ensures.found) in
    let sent = each_sent {T = Unit {0}} c.args.options items c.in_ok-errors.errors c.as_slice.result.now (g.O.Output.seen c.args.out.now) (g.O.Output.seen c.send_answers.new.out)
    (Err c.in_err-send_answers.field-0.0) c.in_ok-errors.ensures.found (ap length c.as_slice.ensures.value ∙ c.in_ok-answers.ensures.each ∙ c.observables.ensures.value) distances c.in_err-send_answers.ensures.sends in
    let reported = err_from_is_err_and c.from_residual-in_err-send_answers.result c.from_residual-in_err-send_answers.ensures.1 in
    rw (reported.1, reported.2) sent

pub returns-in_err-send_answers-clause-reported : goal.returns-in_err-send_answers-clause-reported
returns-in_err-send_answers-clause-reported g c =
    heard_over c.args.options (circuit_items c.args.circuit.now) c.in_ok-errors.errors (g.P.Progress.heard c.args.progress.now) (g.P.Progress.heard c.begins.new.self) c.len.result c.in_ok-errors.ensures.found c.len.ensures.value
    c.begins.ensures.hears

pub returns-clause-goes_on : goal.returns-clause-goes_on
returns-clause-goes_on g c =
    let items = circuit_items c.args.circuit.now in
    let distances = subst (AreDistanceAnswers c.args.options items c.in_ok-errors.errors 0) (sym c.as_slice.ensures.value) (c.in_ok-answers.ensures.found items c.in_ok-errors.ensures.found) in
    each_sent {T = Unit {0}} c.args.options items c.in_ok-errors.errors c.as_slice.result.now (g.O.Output.seen c.args.out.now) (g.O.Output.seen c.send_answers.new.out)
    (Ok tt) c.in_ok-errors.ensures.found (ap length c.as_slice.ensures.value ∙ c.in_ok-answers.ensures.each ∙ c.observables.ensures.value) distances c.in_ok-send_answers.ensures.sends

pub returns-clause-reported : goal.returns-clause-reported
returns-clause-reported g c =
    heard_over c.args.options (circuit_items c.args.circuit.now) c.in_ok-errors.errors (g.P.Progress.heard c.args.progress.now) (g.P.Progress.heard c.begins.new.self) c.len.result c.in_ok-errors.ensures.found c.len.ensures.value
    c.begins.ensures.hears
