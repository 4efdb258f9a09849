use Rattle.stab_error_model.proofs.ListedLemmas.{letter-is, string-is}
use Rattle.stab_error_model.proofs.everywhere_laws.everywhere_is_everywhere.Goals as goal

pub returns : goal.returns
returns c = record {
  letters = λ n items f fits fit.
      letter-is n items fits c.deterministic_parities.ensures.law c.single_errors_flip_parities.ensures.sites c.single_errors_add.ensures.law f fit;
  strings = λ n letters items single_errors fits fit.
      string-is n items fits c.deterministic_parities.ensures.law c.single_errors_flip_parities.ensures.sites c.single_errors_add.ensures.law letters single_errors fit;
}
