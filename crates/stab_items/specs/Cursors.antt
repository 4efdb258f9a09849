-- Cursors: what contracts see of them, and which steps the values of the code stand for.
-- Source: this project's own.
use Rattle.std.specs.Prelude.{List}
use Rattle.stab_items.specs.Steps.{Step}

-- what contracts see of a cursor: all steps of its circuit, and those that are left
pub record CursorState : Type 0 where
  pub all : List Step
  pub left : List Step
