use Rattle.stab_error_model.proofs.Names.{◌∙◌, ap, false, length, Some, None, unwrap_or, with_observable}
use Rattle.stab_error_model.proofs.AnswerLemmas.{answers-are}
use Rattle.stab_error_model.proofs.UnseenLemmas.{heard-of, unheard-of}
use Rattle.stab_error_model.proofs.search.distance.Goals as goal

pub returns-in-None-clause-distance : goal.returns-in-None-clause-distance
returns-in-None-clause-distance g c =
    answers-are c.args.errors.now c.args.observable None c.args.most c.unwrap_or-bound.result c.table-table.result.now c.least_logical_error.result c.in-None.is
    (c.unwrap_or-bound.ensures ∙ ap (λ k. unwrap_or c.args.most k) (c.len.ensures.value ∙ ap (λ t. length t.rows) c.table-table.ensures.value))
    c.table-table.ensures.value c.least_logical_error.ensures.answer

pub returns-in-None-clause-reported : goal.returns-in-None-clause-reported
returns-in-None-clause-reported g c =
    heard-of c.args.errors.now c.args.observable None c.args.most c.unwrap_or-bound.result c.table-table.result.now (g.P.Progress.heard c.args.progress.now) (g.P.Progress.heard c.least_logical_error.new.progress) c.least_logical_error.result c.in-None.is
    (c.unwrap_or-bound.ensures ∙ ap (λ k. unwrap_or c.args.most k) (c.len.ensures.value ∙ ap (λ t. length t.rows) c.table-table.ensures.value))
    c.table-table.ensures.value c.least_logical_error.ensures.reported

pub returns-in_ok-retained-in-Some-clause-distance : goal.returns-in_ok-retained-in-Some-clause-distance
returns-in_ok-retained-in-Some-clause-distance g c =
    answers-are c.args.errors.now c.args.observable (Some c.in-Some.observable) c.args.most c.unwrap_or-bound.result c.in_ok-retained-in-Some.retained c.least_logical_error-in-Some.result c.in-Some.is
    (c.unwrap_or-bound.ensures ∙ ap (λ k. unwrap_or c.args.most k) (c.len.ensures.value ∙ ap (λ t. length t.rows) c.table-table.ensures.value))
    (c.in_ok-retained-in-Some.ensures.value ∙ ap (with_observable (Some c.in-Some.observable)) c.table-table.ensures.value) c.least_logical_error-in-Some.ensures.answer

pub returns-in_ok-retained-in-Some-clause-reported : goal.returns-in_ok-retained-in-Some-clause-reported
returns-in_ok-retained-in-Some-clause-reported g c =
    heard-of c.args.errors.now c.args.observable (Some c.in-Some.observable) c.args.most c.unwrap_or-bound.result c.in_ok-retained-in-Some.retained (g.P.Progress.heard c.args.progress.now) (g.P.Progress.heard c.least_logical_error-in-Some.new.progress) c.least_logical_error-in-Some.result c.in-Some.is
    (c.unwrap_or-bound.ensures ∙ ap (λ k. unwrap_or c.args.most k) (c.len.ensures.value ∙ ap (λ t. length t.rows) c.table-table.ensures.value))
    (c.in_ok-retained-in-Some.ensures.value ∙ ap (with_observable (Some c.in-Some.observable)) c.table-table.ensures.value) c.least_logical_error-in-Some.ensures.reported

pub returns-in_err-retained-in-Some-clause-reported : goal.returns-in_err-retained-in-Some-clause-reported
returns-in_err-retained-in-Some-clause-reported g c =
    unheard-of false c.args.errors.now c.args.observable c.in-Some.observable c.args.most (g.P.Progress.heard c.args.progress.now) c.from_residual.result c.in_err-retained-in-Some.field-0.0 c.in-Some.is c.from_residual.ensures.1
