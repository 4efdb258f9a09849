-- Spans: where the steps of an edited circuit differ from those that it had.
-- Source: this project's own.
use Rattle.std.specs.Prelude.{◌≡◌, ◌≤◌, List, length, take, drop}
use Rattle.stab_items.specs.Steps.{Step, most_steps}
use Rattle.stab_items.specs.declared.edit.Span.{Span}

-- two lists of steps are the same before one step, and after another of each
pub record IsSpan (xs ys : List Step) (s : Span) : Type 0 where
  pub old_order : s.first ≤ s.old_end
  pub new_order : s.first ≤ s.new_end
  pub old_within : s.old_end ≤ length xs
  pub new_within : s.new_end ≤ length ys
  pub before : take s.first xs ≡ take s.first ys
  pub following : drop s.old_end xs ≡ drop s.new_end ys

-- so the steps of an edited circuit differ from its old ones, of which there are no more than a circuit may have
abbrev pub IsEditOf : List Step → List Step → Span → Type 0
IsEditOf xs ys s = (length xs ≤ most_steps) × IsSpan xs ys s
