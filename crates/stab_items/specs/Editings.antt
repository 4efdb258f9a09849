-- Editings: how the calls that edit a circuit answer.
-- Source: this project's own.
use Rattle.std.specs.Prelude.{◌≡◌, ◌≤◌, min, List, length}
use Rattle.stab_items.specs.declared.edit.Edit.{Edit}
use Rattle.stab_items.specs.declared.edit.Span.{Span}
use Rattle.stab_items.specs.Items.{OneItem, listed}
use Rattle.stab_items.specs.Steps.{unroll, steps_cap}
use Rattle.stab_items.specs.Edits.{first_changed, old_end, new_end}

-- the span is of the steps that the edit changed: the first changed one and both ends of the outermost item, up to 1,048,577; no end
-- is before the first
pub record IsSpanOf (edit : Edit) (old new : List OneItem) (span : Span) : Type 0 where
  pub first : span.first ≡ min (first_changed edit old) steps_cap
  pub within : first_changed edit old ≤ length (unroll (listed old))
  pub old_end : span.old_end ≡ min (old_end edit old) steps_cap
  pub new_end : span.new_end ≡ min (new_end edit new) steps_cap
  pub old_order : span.first ≤ span.old_end
  pub new_order : span.first ≤ span.new_end
