-- Classes of detectors: if the part of each error in each class is an error, errors of one class each are enough. Detectors of class 0 are ignored.
use Rattle.std.specs.Prelude.{◌≡◌, ◌≢◌, ◌⊎◌, ℕ, ◌<◌, ◌≤◌, true, List, [], ◌∷◌, length, map, slice_index}
use Rattle.stab_parities.specs.Ascending.{IsAscending}
use Rattle.stab_search.specs.Tables.{ErrorTable, flipped_by_rows}
use Rattle.stab_parities.specs.OddNumbers.{odd, row}
use Rattle.stab_search.specs.LogicalErrors.{IsLogicalError}
use Rattle.stab_search.specs.inner.Errors.{AreRowsOf}
use Rattle.stab_search.specs.inner.Lists.{ForEach}

-- the class of what an error flips: that of its first number
abbrev pub class_of : List ℕ → List ℕ → ℕ
class_of classes [] = 0
class_of classes (d ∷ ds) = slice_index classes d

-- each detector among these numbers has this class, and it is not 0
abbrev pub AreOfClass : (classes : List ℕ) → (detectors : ℕ) → List ℕ → ℕ → Type 0
AreOfClass classes detectors is k = (d : ℕ) → d < detectors → odd d is ≡ true → (slice_index classes d ≡ k) × (k ≢ 0)

-- each error of a table flips detectors of one class
abbrev pub HaveClasses : ErrorTable → (classes : List ℕ) → Type 0
HaveClasses t classes = (r : ℕ) → r < length t.rows → AreOfClass classes t.detectors (row t.rows r) (class_of classes (row t.rows r))

-- an observable, or a detector that is not ignored
abbrev pub CountsNumber : (classes : List ℕ) → (detectors : ℕ) → ℕ → Type 0
CountsNumber classes detectors i = (detectors ≤ i) ⊎ (slice_index classes i ≢ 0)

-- errors of different classes that flip together what counts of these numbers
pub record AreParts (t : ErrorTable) (classes is parts : List ℕ) : Type 0 where
  pub inside : ForEach (λ r. r < length t.rows) parts
  pub same : (i : ℕ) → CountsNumber classes t.detectors i → flipped_by_rows t.rows parts i ≡ odd i is
  pub distinct : IsAscending (map (λ r. class_of classes (row t.rows r)) parts)

-- what an error flips splits into errors of a table
abbrev pub Splits : ErrorTable → (classes is : List ℕ) → Type 0
Splits t classes is = (parts : List ℕ) × AreParts t classes is parts

-- errors of a table that are enough: for each logical error of the table they have one of no more errors
pub record ErrorsAreEnough (t fewer : ErrorTable) (numbers : List ℕ) : Type 0 where
  pub detectors : fewer.detectors ≡ t.detectors
  pub rows : AreRowsOf t.rows fewer.rows numbers
  pub enough : (errors : List ℕ) → IsLogicalError t errors → (others : List ℕ) × (IsLogicalError fewer others × (length others ≤ length errors))
