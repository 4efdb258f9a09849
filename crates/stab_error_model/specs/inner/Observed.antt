-- Observed rows: the rows of a table of errors if one observable alone counts.
-- Source: this project's own.
use Rattle.std.specs.Prelude.{◌≡◌, ℕ, ◌+◌, ◌-◌, ◌<◌, Bool, true, false, ◌||◌, ◌==◌, nat_lt, List, length, map, All, Option, Some, None}
use Rattle.std.specs.List.{filter}
use Rattle.stab_search.specs.Tables.{ErrorTable, flipped_by_rows}
use Rattle.stab_error_model.specs.Unseen.{IsAskedFor}

-- whether a number is that of a detector, or of this observable
abbrev pub is_searched_number : (detectors observable : ℕ) → ℕ → Bool
is_searched_number detectors observable number = nat_lt number detectors || ((number - detectors) == observable)

-- the numbers of a row that are retained so
abbrev pub retained_row : (detectors observable : ℕ) → List ℕ → List ℕ
retained_row detectors observable = filter (is_searched_number detectors observable)

-- the table of rows in which this observable alone counts, or the table as it is if any does
abbrev pub with_observable : Option ℕ → ErrorTable → ErrorTable
with_observable None t = t
with_observable (Some observable) t = record { detectors = t.detectors; rows = map (retained_row t.detectors observable) t.rows }

-- a logical error of a table that flips an observable that is asked for
pub record IsLogicalOf (observable : Option ℕ) (t : ErrorTable) (errors : List ℕ) : Type 0 where
  pub inside : All (λ r. r < length t.rows) errors
  pub undetected : (d : ℕ) → d < t.detectors → flipped_by_rows t.rows errors d ≡ false
  pub number : ℕ
  pub asked : IsAskedFor observable number
  pub flipped : flipped_by_rows t.rows errors (t.detectors + number) ≡ true
