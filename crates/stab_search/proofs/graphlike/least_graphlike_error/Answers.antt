use Rattle.stab_search.proofs.Names.{length, IfOk-weaker, HasNoGraphlikeWithin}
use Rattle.stab_search.proofs.PartLemmas.{part-answer, part-none}
use Rattle.stab_search.proofs.ShortestLemmas.{none-empty}
use Rattle.stab_search.proofs.ReportLemmas.{reported-begun, reported-on}
use Rattle.stab_search.proofs.graphlike.least_graphlike_error.Goals as goal

pub returns-in_err-part-clause-reported : goal.returns-in_err-part-clause-reported
returns-in_err-part-clause-reported g c =
    reported-begun _ _ (length c.args.table.now.rows) c.args.most (HasNoGraphlikeWithin c.args.table.now) c.len.result (g.P.Progress.heard c.args.progress.now) (g.P.Progress.heard c.begins.new.self)
    c.from_residual.result (λ errors e. none-empty c.args.table.now errors e.logical) c.len.ensures.value c.begins.ensures.hears c.from_residual.ensures.1

pub returns-in_err-answer-clause-reported : goal.returns-in_err-answer-clause-reported
returns-in_err-answer-clause-reported g c =
    reported-begun _ _ (length c.args.table.now.rows) c.args.most (HasNoGraphlikeWithin c.args.table.now) c.len.result (g.P.Progress.heard c.args.progress.now) (g.P.Progress.heard c.begins.new.self)
    c.from_residual-in_err-answer.result (λ errors e. none-empty c.args.table.now errors e.logical) c.len.ensures.value c.begins.ensures.hears c.from_residual-in_err-answer.ensures.1

pub returns-in-Some-clause-answer : goal.returns-in-Some-clause-answer
returns-in-Some-clause-answer g c =
    part-answer c.args.table.now c.in_ok-part.part c.in_ok-part.ensures.part c.args.most c.in-Some.answer (rw c.in-Some.is at c.in_ok-answer.ensures.answer)

pub returns-in-Some-clause-reported : goal.returns-in-Some-clause-reported
returns-in-Some-clause-reported g c =
    let is = rw c.in-Some.is at c.in_ok-answer.ensures.answer in
    reported-on _ (length c.args.table.now.rows) c.args.most (HasNoGraphlikeWithin c.args.table.now) c.len.result c.excluded_by.result (g.P.Progress.heard c.args.progress.now)
    (g.P.Progress.heard c.begins.new.self) (g.P.Progress.heard c.report.new.progress) _
    (part-none c.args.table.now c.in_ok-part.part c.in_ok-part.ensures.part c.excluded_by.result (c.excluded_by.ensures.none c.in_ok-part.part is)) c.len.ensures.value c.begins.ensures.hears
    c.report.ensures.reported (c.excluded_by.ensures.all c.in_ok-part.part is)

pub returns-clause-answer : goal.returns-clause-answer
returns-clause-answer g c =
    IfOk-weaker c.least_of.result _ _
    (λ a is. part-answer c.args.table.now c.in_ok-part.part c.in_ok-part.ensures.part c.args.most a is)
    c.least_of.ensures.answer

pub returns-clause-reported : goal.returns-clause-reported
returns-clause-reported g c =
    reported-on _ (length c.args.table.now.rows) c.args.most (HasNoGraphlikeWithin c.args.table.now) c.len.result c.least_of.ensures.reported.last (g.P.Progress.heard c.args.progress.now)
    (g.P.Progress.heard c.begins.new.self) (g.P.Progress.heard c.least_of.new.progress) c.least_of.result
    (part-none c.args.table.now c.in_ok-part.part c.in_ok-part.ensures.part c.least_of.ensures.reported.last c.least_of.ensures.reported.none) c.len.ensures.value c.begins.ensures.hears
    c.least_of.ensures.reported.heard c.least_of.ensures.reported.all
