use Rattle.stab_error_model.proofs.Names.{refl, Some, None, errors_of}
use Rattle.stab_error_model.proofs.AnswerLemmas.{answer-is}
use Rattle.stab_error_model.proofs.FitLemmas.{table-found}
use Rattle.stab_error_model.proofs.SiteFitLemmas.{errors-fit}
use Rattle.stab_error_model.proofs.laws.circuits_have_distances.Goals as goal

pub returns : goal.returns
returns c = record {
  law = λ n everywhere letters items most fits few.
      let table =
      table-found n items fits c.deterministic_parities.ensures.law c.single_errors_flip_parities.ensures.sites c.single_errors_add.ensures.law (errors_of everywhere letters items)
      (errors-fit n items everywhere letters fits) in
      let found = c.tables_have_answers.ensures.law table.0.table most few in
      (table.0, found.0, table.1, table.2, answer-is n items None table.0 table.2 (Some most) most found.0 refl found.1);
}
