use Rattle.stab_error_model.proofs.Names.{sym, ap, ◌∙◌, length, step_shown, step_single_errors}
use Rattle.stab_error_model.proofs.EverywhereLemmas.{long-factors}
use Rattle.stab_error_model.proofs.everywhere.single_errors_at.Goals as goal

pub returns-in-Product : goal.returns-in-Product
returns-in-Product c = record { value = λ t. sym (ap (λ s. length (step_single_errors t (step_shown s))) c.in-Product.is ∙ long-factors t c.in-Product.factors.now) }
