use Rattle.stab_commands.proofs.Names.{Ok, Err, length, subst, err_from_is_err_and, qubits_of, circuit_items, DistanceOptions, IsRefusedFor}
use Rattle.std.specs.Option.{unwrap_or}
use Rattle.stab_report.specs.Distances.{HearsErrors}
use Rattle.stab_report.specs.PartTexts.{IsPartText}
use Rattle.stab_report.proofs.ErrorLineLaws.{rows_counted}
use Rattle.stab_commands.proofs.DistanceLaws.{refused_handed}
use Rattle.stab_commands.proofs.EndingLaws.{heard_over, unsent_on}
use Rattle.stab_commands.proofs.PartLaws.{part_inside, part_sent}
use Rattle.stab_commands.proofs.part_distance.send_part_distance.Goals as goal

pub returns-in_err-errors-clause-goes_on : goal.returns-in_err-errors-clause-goes_on
returns-in_err-errors-clause-goes_on g c =
    let items = circuit_items c.args.circuit.now in
    let refused = c.in_err-errors.field-0.0 in
    refused_handed (IsPartText c.args.part c.args.options items) c.args.options.deterministic_only items refused c.from_residual.result (g.O.Output.seen c.args.out.now)
    c.from_residual.ensures.1 (subst (λ (o : DistanceOptions). IsRefusedFor o.deterministic_only items refused.random refused.fault) c.of_part-asked.ensures.value c.in_err-errors.ensures.refused)

pub returns-in_err-found-clause-goes_on : goal.returns-in_err-found-clause-goes_on
returns-in_err-found-clause-goes_on g c =
    let items = circuit_items c.args.circuit.now in
    unsent_on (IsPartText c.args.part c.args.options items) c.args.options.deterministic_only items c.in_err-found.field-0.0 c.from_residual-in_err-found.result (g.O.Output.seen c.args.out.now)
    c.in_err-found.ensures.err c.from_residual-in_err-found.ensures.1

pub returns-in_err-found-clause-reported : goal.returns-in_err-found-clause-reported
returns-in_err-found-clause-reported g c =
    let items = circuit_items c.args.circuit.now in
    let old = g.P.Progress.heard c.args.progress.now in
    let new = g.P.Progress.heard c.begins.new.self in
    subst (λ (o : DistanceOptions). HearsErrors o items old new) c.of_part-asked.ensures.value
    (heard_over c.of_part-asked.result items c.in_ok-errors.errors old new c.len.result c.in_ok-errors.ensures.found c.len.ensures.value c.begins.ensures.hears)

pub send_part-requires-clause-inside : goal.send_part-requires-clause-inside
send_part-requires-clause-inside g c =
    let items = circuit_items c.args.circuit.now in
    let t = c.in_ok-errors.errors in
    part_inside c.args.part t.table (unwrap_or c.of_part-asked.result.most (length t.table.rows)) (length t.errors) c.in_ok-found.found
    (rows_counted (qubits_of items) items t c.in_ok-errors.ensures.found.table) c.in_ok-found.ensures.answer

pub returns-in_err-send_part-clause-goes_on : goal.returns-in_err-send_part-clause-goes_on
returns-in_err-send_part-clause-goes_on g c =
    let sent = part_sent {T = Unit {0}} c.args.part c.args.options c.of_part-asked.result (circuit_items c.args.circuit.now) c.in_ok-errors.errors c.in_ok-found.found (g.O.Output.seen c.args.out.now) (g.O.Output.seen c.send_part.new.out)
    (Err c.in_err-send_part.field-0.0) c.of_part-asked.ensures.value c.in_ok-errors.ensures.found c.in_ok-found.ensures.answer c.in_err-send_part.ensures.sends in
    let reported = err_from_is_err_and c.from_residual-in_err-send_part.result c.from_residual-in_err-send_part.ensures.1 in
    rw (reported.1, reported.2) sent

pub returns-in_err-send_part-clause-reported : goal.returns-in_err-send_part-clause-reported
returns-in_err-send_part-clause-reported g c =
    let items = circuit_items c.args.circuit.now in
    let old = g.P.Progress.heard c.args.progress.now in
    let new = g.P.Progress.heard c.begins.new.self in
    subst (λ (o : DistanceOptions). HearsErrors o items old new) c.of_part-asked.ensures.value
    (heard_over c.of_part-asked.result items c.in_ok-errors.errors old new c.len.result c.in_ok-errors.ensures.found c.len.ensures.value c.begins.ensures.hears)

pub returns-clause-goes_on : goal.returns-clause-goes_on
returns-clause-goes_on g c =
    part_sent {T = Unit {0}} c.args.part c.args.options c.of_part-asked.result (circuit_items c.args.circuit.now) c.in_ok-errors.errors c.in_ok-found.found (g.O.Output.seen c.args.out.now) (g.O.Output.seen c.send_part.new.out)
    (Ok tt) c.of_part-asked.ensures.value c.in_ok-errors.ensures.found c.in_ok-found.ensures.answer c.in_ok-send_part.ensures.sends

pub returns-clause-reported : goal.returns-clause-reported
returns-clause-reported g c =
    let items = circuit_items c.args.circuit.now in
    let old = g.P.Progress.heard c.args.progress.now in
    let new = g.P.Progress.heard c.begins.new.self in
    subst (λ (o : DistanceOptions). HearsErrors o items old new) c.of_part-asked.ensures.value
    (heard_over c.of_part-asked.result items c.in_ok-errors.errors old new c.len.result c.in_ok-errors.ensures.found c.len.ensures.value c.begins.ensures.hears)
