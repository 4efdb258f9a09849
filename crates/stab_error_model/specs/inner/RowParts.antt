-- Parts by rows: which errors stay and which give way to their parts, by the rows of a table of single errors.
-- Source: this project's own.
use Rattle.std.specs.Prelude.{◌≡◌, ℕ, ◌⊎◌, Bool, true, false, List, [], ◌∷◌, ◌++◌, map, All}
use Rattle.stab_regions.specs.SingleErrors.{SingleError}
use Rattle.stab_search.specs.Graphlike.{IsGraphlike}
use Rattle.stab_error_model.specs.Errors.{Error}
use Rattle.stab_error_model.specs.Placed.{error_shown}
use Rattle.stab_error_model.specs.Parts.{parts_of_error}
use Rattle.stab_error_model.specs.inner.ErrorLists.{ErrorStands}
use Rattle.stab_error_model.specs.inner.ErrorRows.{IsErrorRow}
use Rattle.stab_error_model.specs.declared.placed.Error.{Error as ErrorValue}

-- an error whose row names at most two detectors stays, and any other gives way to its parts
abbrev pub IsSplitByRow : (rows : List (List ℕ)) → (detectors : ℕ) → ErrorValue → (given : List Error) → Type 0
IsSplitByRow rows detectors e given =
    (row : List ℕ) × IsErrorRow rows e row
    × ((IsGraphlike detectors row × (given ≡ error_shown e ∷ [])) ⊎ ((IsGraphlike detectors row → ⊥) × (given ≡ parts_of_error (error_shown e))))

-- the same of errors, in order
abbrev pub SplitByRows : (rows : List (List ℕ)) → (detectors : ℕ) → (whole : List ErrorValue) → (given : List Error) → Type 0
SplitByRows rows detectors [] given = given ≡ []
SplitByRows rows detectors (e ∷ es) given =
    (first rest : List Error) × IsSplitByRow rows detectors e first × SplitByRows rows detectors es rest × (given ≡ first ++ rest)

-- and they stand in a list of single errors if the whole ones do
pub record AreSplitByRows (rows : List (List ℕ)) (detectors : ℕ) (whole split : List ErrorValue) : Type 0 where
  pub given : SplitByRows rows detectors whole (map error_shown split)
  pub stand : (single_errors : List SingleError) → All (ErrorStands single_errors) whole → All (ErrorStands single_errors) split

-- the errors that are searched
abbrev pub AreSearchedByRows : (graphlike : Bool) → (rows : List (List ℕ)) → (detectors : ℕ) → (whole searched : List ErrorValue) → Type 0
AreSearchedByRows false rows detectors whole searched = searched ≡ whole
AreSearchedByRows true rows detectors whole searched = AreSplitByRows rows detectors whole searched
