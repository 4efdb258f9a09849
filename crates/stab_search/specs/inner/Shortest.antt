-- Logical errors of at most a number of errors, and the set of a list of errors.
use Rattle.std.specs.Prelude.{◌≡◌, ℕ, ◌<◌, ◌≤◌, Bool, true, false, List, length}
use Rattle.stab_parities.specs.Ascending.{IsAscending}
use Rattle.stab_search.specs.Tables.{ErrorTable, flipped_by_rows}
use Rattle.stab_search.specs.LogicalErrors.{IsLogicalError, HasNone, HasSome}
use Rattle.stab_search.specs.inner.Lists.{ForEach}

-- a logical error of at most `most` errors
pub record IsLogicalWithin (t : ErrorTable) (most : ℕ) (errors : List ℕ) : Type 0 where
  pub logical : IsLogicalError t errors
  pub within : length errors ≤ most

-- the set of a list: the errors that are there an odd number of times, in ascending order
pub record IsGathered (errors set : List ℕ) : Type 0 where
  pub ascending : IsAscending set
  pub fewer : length set ≤ length errors
  pub inside : (n : ℕ) → ForEach (λ r. r < n) errors → ForEach (λ r. r < n) set
  pub flipped_by_rows : (rows : List (List ℕ)) (i : ℕ) → flipped_by_rows rows set i ≡ flipped_by_rows rows errors i

-- a set of at most `most` errors that is a logical error
pub record IsLogicalSet (t : ErrorTable) (most : ℕ) (set : List ℕ) : Type 0 where
  pub ascending : IsAscending set
  pub logical : IsLogicalError t set
  pub within : length set ≤ most

-- whether there is a logical error
abbrev pub Decides : ErrorTable → Bool → Type 0
Decides t true = HasSome t
Decides t false = HasNone t
