-- Steps: rows with other detectors for theirs, as of one round for those of the next, and the errors that a shortest logical error has one of.
use Rattle.std.specs.Prelude.{◌≡◌, ℕ, ◌<◌, ◌≤◌, true, List, length, slice_index, slice_index_or}
use Rattle.stab_search.specs.Tables.{ErrorTable}
use Rattle.stab_parities.specs.OddNumbers.{row}
use Rattle.stab_search.specs.LogicalErrors.{IsLogicalError}
use Rattle.stab_search.specs.inner.Lists.{has}

-- the number that a number moves to; one past the end of the list does not move
abbrev pub lowered : List ℕ → ℕ → ℕ
lowered lower i = slice_index_or lower i i

-- detectors move to detectors, and to no observable
pub record AreLower (detectors : ℕ) (lower : List ℕ) : Type 0 where
  pub within : length lower ≤ detectors
  pub inside : (d : ℕ) → d < length lower → slice_index lower d < detectors

-- each number of a list moved
pub record AreMoved (lower below above : List ℕ) : Type 0 where
  pub count : length below ≡ length above
  pub each : (k : ℕ) → k < length above → slice_index below k ≡ lowered lower (slice_index above k)

-- error r moved is one before it
abbrev pub MovesDown : ErrorTable → List ℕ → ℕ → Type 0
MovesDown t lower r = (q : ℕ) × ((q < r) × AreMoved lower (row t.rows q) (row t.rows r))

-- each error from a number on moves down
abbrev pub MoveDown : ErrorTable → ℕ → List ℕ → Type 0
MoveDown t from lower = (r : ℕ) → from ≤ r → r < length t.rows → MovesDown t lower r

-- a list has a number below another
abbrev pub HasBefore : ℕ → List ℕ → Type 0
HasBefore firsts errors = (f : ℕ) × ((f < firsts) × (has f errors ≡ true))

-- for each logical error there is one of no more errors, of which one is before a number
pub record BeginsBefore (t : ErrorTable) (firsts : ℕ) : Type 0 where
  pub begins : (errors : List ℕ) → IsLogicalError t errors → (others : List ℕ) × (IsLogicalError t others × ((length others ≤ length errors) × HasBefore firsts others))
