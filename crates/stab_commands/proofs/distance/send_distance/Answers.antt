use Rattle.stab_commands.proofs.Names.{Ok, Err, inr, sym, subst, err_from_is_err_and, circuit_items, fault_of, HearsDistance, IsDistanceText}
use Rattle.stab_commands.proofs.DistanceLaws.{answer_sent, heard_handed, refused_handed}
use Rattle.stab_commands.proofs.distance.send_distance.Goals as goal

pub returns-in_err-found-clause-goes_on : goal.returns-in_err-found-clause-goes_on
returns-in_err-found-clause-goes_on g c =
    let items = circuit_items c.args.circuit.now in
    refused_handed (IsDistanceText c.args.options items) c.args.options.deterministic_only items c.in_err-found.field-0.0 c.from_residual.result (g.O.Output.seen c.args.out.now)
    c.from_residual.ensures.1 c.in_err-found.ensures.refused

pub returns-in_err-found-clause-reported : goal.returns-in_err-found-clause-reported
returns-in_err-found-clause-reported g c =
    heard_handed c.args.options (circuit_items c.args.circuit.now) c.in_err-found.field-0.0 c.from_residual.result (g.P.Progress.heard c.args.progress.now) (g.P.Progress.heard c.find_distance.new.progress)
    c.from_residual.ensures.1 c.in_err-found.ensures.reported

pub returns-in_err-send_answer-clause-goes_on : goal.returns-in_err-send_answer-clause-goes_on
returns-in_err-send_answer-clause-goes_on g c =
    let items = circuit_items c.args.circuit.now in
    let sent = answer_sent {T = Unit {0}} c.args.options items c.in_ok-found.found (g.O.Output.seen c.args.out.now) (g.O.Output.seen c.send_answer.new.out)
    (Err c.in_err-send_answer.field-0.0) c.in_ok-found.ensures.found c.in_err-send_answer.ensures.sends in
    let reported = err_from_is_err_and c.from_residual-in_err-send_answer.result c.from_residual-in_err-send_answer.ensures.1 in
    rw (reported.1, reported.2) sent

pub returns-in_err-send_answer-clause-reported : goal.returns-in_err-send_answer-clause-reported
returns-in_err-send_answer-clause-reported g c =
    let reported = err_from_is_err_and c.from_residual-in_err-send_answer.result c.from_residual-in_err-send_answer.ensures.1 in
    let heard = c.in_ok-found.ensures.reported in
    subst (λ r. HearsDistance {T = Unit {0}} c.args.options (circuit_items c.args.circuit.now) (g.P.Progress.heard c.args.progress.now) (g.P.Progress.heard c.find_distance.new.progress) (fault_of r)) (sym reported.1)
    (inr (Ok heard.0, heard.1))
