use Rattle.stab_search.proofs.Names.{◌∙◌, ap, rules, variables_of}
use Rattle.std.proofs.lemmas.Fn.{filter_same}
use Rattle.stab_search.proofs.problem.variables_of.Goals as goal

pub returns : goal.returns
returns c = record { value = filter_same _ _ _ (λ x b f k. search rules) _ _ c.retain.ensures.filtered ∙ ap variables_of c.in_ok-variables.ensures.value }
