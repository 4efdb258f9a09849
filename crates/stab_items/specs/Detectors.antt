-- Detectors: what is seen of items that are detectors.
-- Source: this project's own.
use Rattle.std.specs.Prelude.{ℕ, Bool, List, []}
use Rattle.std.specs.Option.{is_some, unwrap_or}
use Rattle.stab_items.specs.Items.{OneItem}
use Rattle.stab_items.specs.Steps.{detector_of}

-- whether an item is a detector
abbrev pub detects : OneItem → Bool
detects x = is_some (detector_of x)

-- the lookbacks of a detector, and none for any other item
abbrev pub lookbacks_at : OneItem → List ℕ
lookbacks_at x = unwrap_or (detector_of x) []
