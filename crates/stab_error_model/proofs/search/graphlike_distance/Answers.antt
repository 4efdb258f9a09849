use Rattle.stab_error_model.proofs.Names.{◌∙◌, ap, true, length, Some, None, unwrap_or, with_observable}
use Rattle.stab_error_model.proofs.GraphlikeLemmas.{graphlike-answers, graphlike-heard}
use Rattle.stab_error_model.proofs.UnseenLemmas.{unheard-of}
use Rattle.stab_error_model.proofs.search.graphlike_distance.Goals as goal

pub returns-in-None-clause-distance : goal.returns-in-None-clause-distance
returns-in-None-clause-distance g c =
    graphlike-answers c.args.errors.now c.args.observable None c.args.most c.unwrap_or-bound.result c.table-table.result.now c.least_graphlike_error.result c.in-None.is
    (c.unwrap_or-bound.ensures ∙ ap (λ k. unwrap_or c.args.most k) (c.len.ensures.value ∙ ap (λ t. length t.rows) c.table-table.ensures.value))
    c.table-table.ensures.value c.least_graphlike_error.ensures.answer

pub returns-in-None-clause-reported : goal.returns-in-None-clause-reported
returns-in-None-clause-reported g c =
    graphlike-heard c.args.errors.now c.args.observable None c.args.most c.unwrap_or-bound.result c.table-table.result.now (g.P.Progress.heard c.args.progress.now) (g.P.Progress.heard c.least_graphlike_error.new.progress) c.least_graphlike_error.result c.in-None.is
    (c.unwrap_or-bound.ensures ∙ ap (λ k. unwrap_or c.args.most k) (c.len.ensures.value ∙ ap (λ t. length t.rows) c.table-table.ensures.value))
    c.table-table.ensures.value c.least_graphlike_error.ensures.reported

pub returns-in_ok-retained-in-Some-clause-distance : goal.returns-in_ok-retained-in-Some-clause-distance
returns-in_ok-retained-in-Some-clause-distance g c =
    graphlike-answers c.args.errors.now c.args.observable (Some c.in-Some.observable) c.args.most c.unwrap_or-bound.result c.in_ok-retained-in-Some.retained c.least_graphlike_error-in-Some.result c.in-Some.is
    (c.unwrap_or-bound.ensures ∙ ap (λ k. unwrap_or c.args.most k) (c.len.ensures.value ∙ ap (λ t. length t.rows) c.table-table.ensures.value))
    (c.in_ok-retained-in-Some.ensures.value ∙ ap (with_observable (Some c.in-Some.observable)) c.table-table.ensures.value) c.least_graphlike_error-in-Some.ensures.answer

pub returns-in_ok-retained-in-Some-clause-reported : goal.returns-in_ok-retained-in-Some-clause-reported
returns-in_ok-retained-in-Some-clause-reported g c =
    graphlike-heard c.args.errors.now c.args.observable (Some c.in-Some.observable) c.args.most c.unwrap_or-bound.result c.in_ok-retained-in-Some.retained (g.P.Progress.heard c.args.progress.now) (g.P.Progress.heard c.least_graphlike_error-in-Some.new.progress) c.least_graphlike_error-in-Some.result c.in-Some.is
    (c.unwrap_or-bound.ensures ∙ ap (λ k. unwrap_or c.args.most k) (c.len.ensures.value ∙ ap (λ t. length t.rows) c.table-table.ensures.value))
    (c.in_ok-retained-in-Some.ensures.value ∙ ap (with_observable (Some c.in-Some.observable)) c.table-table.ensures.value) c.least_graphlike_error-in-Some.ensures.reported

pub returns-in_err-retained-in-Some-clause-reported : goal.returns-in_err-retained-in-Some-clause-reported
returns-in_err-retained-in-Some-clause-reported g c =
    unheard-of true c.args.errors.now c.args.observable c.in-Some.observable c.args.most (g.P.Progress.heard c.args.progress.now) c.from_residual.result c.in_err-retained-in-Some.field-0.0 c.in-Some.is c.from_residual.ensures.1
