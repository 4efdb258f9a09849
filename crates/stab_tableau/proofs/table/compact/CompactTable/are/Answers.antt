use Rattle.stab_tableau.proofs.Names.{sym, ◌∙◌}
use Rattle.stab_tableau.proofs.FrameLemmas.{pairs-same, same-pairs}
use Rattle.stab_tableau.proofs.table.compact.CompactTable.are.Goals as goal

pub returns : goal.returns
returns c = record {
  value = (
    λ yes. sym c.self.view_is
        ∙ pairs-same c.self.inside.rows c.table.inside.rows c.self.invariant c.table.invariant.0 (c.are.ensures.value.0 yes)
        ∙ c.table.view_is,
    λ e. c.are.ensures.value.1
        (same-pairs c.self.inside.rows c.table.inside.rows c.self.invariant c.table.invariant.0 (c.self.view_is ∙ e ∙ sym c.table.view_is)),
  );
}
