use Rattle.stab_error_model.proofs.Names.{◌∙◌, ap, sym, subst, Some, IfOk, IsCountOfSets, with_observable}
use Rattle.stab_search.specs.Tables.{ErrorTable}
use Rattle.stab_error_model.proofs.search.count_sets.Goals as goal

pub returns-in_ok-retained-in-Some-clause-count : goal.returns-in_ok-retained-in-Some-clause-count
returns-in_ok-retained-in-Some-clause-count c =
    subst (λ (t : ErrorTable). IfOk c.count_least-in-Some.result (IsCountOfSets t c.args.size))
    (c.in_ok-retained-in-Some.ensures.value ∙ ap (with_observable (Some c.in-Some.observable)) c.table-table.ensures.value ∙ ap (λ o. with_observable o c.args.errors.now.table) (sym c.in-Some.is))
    c.count_least-in-Some.ensures.count
