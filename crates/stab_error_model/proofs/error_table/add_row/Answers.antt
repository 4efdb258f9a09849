use Rattle.stab_error_model.proofs.Names.{◌∙◌, ◌++◌, ◌∷◌, [], sym, ap, subst, IsAscending, odd, AreErrorRows}
use Rattle.stab_error_model.proofs.RowLemmas.{rows-push}
use Rattle.stab_error_model.proofs.error_table.add_row.Goals as goal

pub returns-clause-rows : goal.returns-clause-rows
returns-clause-rows c = λ errors are.
    let single_errors = c.args.single_errors.now.rows in
    let e = c.args.error in
    subst (AreErrorRows single_errors (errors ++ e ∷ [])) (sym (ap (λ t. t.rows) c.in_ok-push.ensures.ok))
    (rows-push single_errors errors c.args.table.now.rows e c.as_slice.result.now are (record {
      ascending = subst IsAscending (sym c.as_slice.ensures.value) c.in_ok-row.ensures.ascending;
      value = λ i. ap (odd i) c.as_slice.ensures.value ∙ c.in_ok-row.ensures.odd i;
    }))
