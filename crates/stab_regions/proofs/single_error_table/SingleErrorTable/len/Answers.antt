use Rattle.stab_regions.proofs.Names.{ap, sym, ◌∙◌, length, length-reverse}
use Rattle.stab_regions.proofs.single_error_table.SingleErrorTable.len.Goals as goal

pub returns : goal.returns
returns c = record { value = c.len.ensures.value ∙ sym (length-reverse c.self.inside.rows) ∙ ap (λ t. length t.rows) c.self.view_is }
