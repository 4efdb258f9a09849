use Rattle.stab_error_model.proofs.Names.{All-contains, wrong_record, errors_of, true}
use Rattle.stab_error_model.proofs.FitLemmas.{Fits}
use Rattle.stab_error_model.proofs.SiteFitLemmas.{errors-fit}
use Rattle.stab_error_model.proofs.WrongRecordLemmas.{IsInverted, errors-inverted}
use Rattle.stab_error_model.proofs.everywhere_laws.wrong_records_are_inverted.Goals as goal

pub returns : goal.returns
returns c = record {
  law = λ n letters items number flip back i fits distinct has.
      let found = c.deterministic_parities.ensures.law in
      let bits = c.deterministic_parities.ensures.bits in
      let sites = c.single_errors_flip_parities.ensures.sites in
      let adds = c.single_errors_add.ensures.law in
      All-contains (IsInverted n items fits found bits sites adds) (errors_of true letters items) (wrong_record number flip back)
      (errors-inverted n items fits found bits sites adds letters distinct) has
      (All-contains (Fits n items) (errors_of true letters items) (wrong_record number flip back) (errors-fit n items true letters fits) has) i;
}
