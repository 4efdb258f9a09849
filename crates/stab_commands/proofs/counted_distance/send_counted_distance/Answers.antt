use Rattle.stab_commands.proofs.Names.{◌≡◌, Ok, Err, ap, false, inr, sym, subst, err_from_is_err_and, circuit_items, fault_of, DistanceOptions, HearsDistance, IsRefusedFor}
use Rattle.stab_report.specs.Distances.{IsCountedText, of_all}
use Rattle.stab_commands.proofs.CountedLaws.{counted_sent}
use Rattle.stab_commands.proofs.DistanceLaws.{heard_handed, refused_handed}
use Rattle.stab_commands.proofs.EndingLaws.{unsent_on}
use Rattle.stab_commands.proofs.counted_distance.send_counted_distance.Goals as goal

pub returns-in_err-found-clause-goes_on : goal.returns-in_err-found-clause-goes_on
returns-in_err-found-clause-goes_on g c =
    let items = circuit_items c.args.circuit.now in
    let refused = c.in_err-found.field-0.0 in
    refused_handed (IsCountedText c.args.options items) c.args.options.deterministic_only items refused c.from_residual.result (g.O.Output.seen c.args.out.now)
    c.from_residual.ensures.1 (subst (λ (o : DistanceOptions). IsRefusedFor o.deterministic_only items refused.random refused.fault) c.of_all-asked.ensures.value c.in_err-found.ensures.refused)

pub returns-in_err-found-clause-reported : goal.returns-in_err-found-clause-reported
returns-in_err-found-clause-reported g c =
    let items = circuit_items c.args.circuit.now in
    let old = g.P.Progress.heard c.args.progress.now in
    let new = g.P.Progress.heard c.find_distance.new.progress in
    subst (λ (o : DistanceOptions). HearsDistance {T = Unit {0}} o items old new (fault_of c.from_residual.result)) c.of_all-asked.ensures.value
    (heard_handed c.of_all-asked.result items c.in_err-found.field-0.0 c.from_residual.result old new c.from_residual.ensures.1 c.in_err-found.ensures.reported)

pub count_of-requires-clause-all : goal.count_of-requires-clause-all
count_of-requires-clause-all g c = ap (λ (o : DistanceOptions). o.graphlike) c.of_all-asked.ensures.value

pub returns-in_err-count-clause-goes_on : goal.returns-in_err-count-clause-goes_on
returns-in_err-count-clause-goes_on g c =
    let items = circuit_items c.args.circuit.now in
    unsent_on (IsCountedText c.args.options items) c.args.options.deterministic_only items c.in_err-count.field-0.0 c.from_residual-in_err-count.result (g.O.Output.seen c.args.out.now)
    c.in_err-count.ensures.err c.from_residual-in_err-count.ensures.1

pub returns-in_err-count-clause-reported : goal.returns-in_err-count-clause-reported
returns-in_err-count-clause-reported g c =
    let items = circuit_items c.args.circuit.now in
    let reported = err_from_is_err_and c.from_residual-in_err-count.result c.from_residual-in_err-count.ensures.1 in
    let old = g.P.Progress.heard c.args.progress.now in
    let new = g.P.Progress.heard c.find_distance.new.progress in
    let heard = subst (λ (o : DistanceOptions). HearsDistance {T = Unit {0}} o items old new (Ok tt)) c.of_all-asked.ensures.value c.in_ok-found.ensures.reported in
    subst (λ r. HearsDistance {T = Unit {0}} (of_all c.args.options) items old new (fault_of r)) (sym reported.1) (inr (Ok heard.0, heard.1))

pub returns-in_err-send_counted-clause-goes_on : goal.returns-in_err-send_counted-clause-goes_on
returns-in_err-send_counted-clause-goes_on g c =
    let sent = counted_sent {T = Unit {0}} c.args.options c.of_all-asked.result (circuit_items c.args.circuit.now) c.in_ok-found.found c.in_ok-count.count (g.O.Output.seen c.args.out.now) (g.O.Output.seen c.send_counted.new.out)
    (Err c.in_err-send_counted.field-0.0) c.of_all-asked.ensures.value c.in_ok-found.ensures.found c.in_ok-count.ensures.count c.in_err-send_counted.ensures.sends in
    let reported = err_from_is_err_and c.from_residual-in_err-send_counted.result c.from_residual-in_err-send_counted.ensures.1 in
    rw (reported.1, reported.2) sent

pub returns-in_err-send_counted-clause-reported : goal.returns-in_err-send_counted-clause-reported
returns-in_err-send_counted-clause-reported g c =
    let items = circuit_items c.args.circuit.now in
    let reported = err_from_is_err_and c.from_residual-in_err-send_counted.result c.from_residual-in_err-send_counted.ensures.1 in
    let old = g.P.Progress.heard c.args.progress.now in
    let new = g.P.Progress.heard c.find_distance.new.progress in
    let heard = subst (λ (o : DistanceOptions). HearsDistance {T = Unit {0}} o items old new (Ok tt)) c.of_all-asked.ensures.value c.in_ok-found.ensures.reported in
    subst (λ r. HearsDistance {T = Unit {0}} (of_all c.args.options) items old new (fault_of r)) (sym reported.1) (inr (Ok heard.0, heard.1))

pub returns-clause-goes_on : goal.returns-clause-goes_on
returns-clause-goes_on g c =
    counted_sent {T = Unit {0}} c.args.options c.of_all-asked.result (circuit_items c.args.circuit.now) c.in_ok-found.found c.in_ok-count.count (g.O.Output.seen c.args.out.now) (g.O.Output.seen c.send_counted.new.out)
    (Ok tt) c.of_all-asked.ensures.value c.in_ok-found.ensures.found c.in_ok-count.ensures.count c.in_ok-send_counted.ensures.sends

pub returns-clause-reported : goal.returns-clause-reported
returns-clause-reported g c =
    subst (λ (o : DistanceOptions). HearsDistance {T = Unit {0}} o (circuit_items c.args.circuit.now) (g.P.Progress.heard c.args.progress.now) (g.P.Progress.heard c.find_distance.new.progress) (Ok tt))
    c.of_all-asked.ensures.value c.in_ok-found.ensures.reported
