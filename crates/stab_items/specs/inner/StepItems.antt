-- Step items: the item of a list that a step is of.
-- Source: this project's own.
use Rattle.std.specs.Prelude.{◌≡◌, ◌<◌, ℕ, ◌+◌, List, length, drop}
use Rattle.stab_items.specs.declared.circuit.step_items.FoundItem.{FoundItem}
use Rattle.stab_items.specs.Items.{OneItem, listed}
use Rattle.stab_items.specs.Steps.{unroll}
use Rattle.stab_items.specs.StepPaths.{paths_from, item_steps_left}

-- the item is the one that a step of the items from a position on is of: this many of its steps come before the step, those of the items
-- after do not, and the paths from the step on and the number of its item's steps left are the same
pub record IsFoundItem (xs : List OneItem) (position step : ℕ) (f : FoundItem) : Type 0 where
  pub in_range : f.position < length xs
  pub within : f.within + length (unroll (listed (drop (f.position + 1) xs))) < length (unroll (listed (drop f.position xs)))
  pub same : drop f.within (paths_from f.position (listed (drop f.position xs))) ≡ drop step (paths_from position (listed (drop position xs)))
  pub left : item_steps_left (listed (drop f.position xs)) f.within ≡ item_steps_left (listed (drop position xs)) step
