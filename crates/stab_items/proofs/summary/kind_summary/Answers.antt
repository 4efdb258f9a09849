use Rattle.stab_items.proofs.Names.{◌∙◌}
use Rattle.stab_items.proofs.SummaryLemmas.{controlled_found}
use Rattle.stab_items.proofs.summary.kind_summary.Goals as goal

pub returns-in-Controlled-clause-value : goal.returns-in-Controlled-clause-value
returns-in-Controlled-clause-value c = c.controlled.ensures.value ∙ controlled_found c.in-Controlled.is c.as_slice-in-Controlled.ensures.value
