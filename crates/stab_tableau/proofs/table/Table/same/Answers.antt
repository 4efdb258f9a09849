use Rattle.stab_tableau.proofs.Names.{sym, ◌∙◌}
use Rattle.stab_tableau.proofs.FrameLemmas.{pairs-same, same-pairs}
use Rattle.stab_tableau.proofs.table.Table.same.Goals as goal

pub returns : goal.returns
returns c = record {
  value = (
    λ yes. sym c.self.view_is
        ∙ pairs-same c.self.inside.rows c.other.inside.rows c.self.invariant.0 c.other.invariant.0 (c.same.ensures.value.0 yes)
        ∙ c.other.view_is,
    λ e. c.same.ensures.value.1
        (same-pairs c.self.inside.rows c.other.inside.rows c.self.invariant.0 c.other.invariant.0 (c.self.view_is ∙ e ∙ sym c.other.view_is)),
  );
}
