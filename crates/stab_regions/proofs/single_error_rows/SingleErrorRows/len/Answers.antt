use Rattle.stab_regions.proofs.Names.{ap, sym, ◌∙◌, length}
use Rattle.stab_regions.proofs.StoredRowLemmas.{length-cut}
use Rattle.stab_regions.proofs.single_error_rows.SingleErrorRows.len.Goals as goal

pub returns : goal.returns
returns c = record {
  value = c.len.ensures ∙ c.self.inside.ends.ok.0 ∙ sym (length-cut 0 c.self.inside.ends.items c.self.inside.numbers.items) ∙ ap length c.self.view_is;
}
