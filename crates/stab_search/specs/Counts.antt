-- Counts: how many sets of errors are a logical error, if each has a number of errors and no logical error has fewer.
-- Source: the number of least sets decides how often errors with low probabilities flip an observable unseen.
use Rattle.std.specs.Prelude.{◌≡◌, ℕ, ◌<◌, ◌≤◌, ◌^◌, List, length, Option, Some, None}
use Rattle.stab_parities.specs.Ascending.{IsAscending}
use Rattle.stab_search.specs.Tables.{ErrorTable}
use Rattle.stab_search.specs.LogicalErrors.{IsLogicalError}

-- no logical error has fewer errors
abbrev pub HasNoneBelow : ErrorTable → (size : ℕ) → Type 0
HasNoneBelow t size = (errors : List ℕ) → IsLogicalError t errors → size ≤ length errors

-- a set of this many errors, each of them once, that is a logical error
pub record IsLogicalSetOf (t : ErrorTable) (size : ℕ) (errors : List ℕ) : Type 0 where
  pub ascending : IsAscending errors
  pub logical : IsLogicalError t errors
  pub count : length errors ≡ size

-- as many sets as a number: each number below it has one of them, different numbers have different ones, and each has a number
pub record AreAsMany (IsOne : List ℕ → Type 0) (count : ℕ) : Type 0 where
  pub set : ℕ → List ℕ
  pub is_one : (k : ℕ) → k < count → IsOne (set k)
  pub distinct : (j k : ℕ) → j < count → k < count → set j ≡ set k → j ≡ k
  pub all : (errors : List ℕ) → IsOne errors → (k : ℕ) × ((k < count) × (set k ≡ errors))

-- what an answer says: how many sets of this many errors are a logical error, or that their number takes more than 64 bits
abbrev pub IsCountOfSets : ErrorTable → (size : ℕ) → Option ℕ → Type 0
IsCountOfSets t size (Some count) = AreAsMany (IsLogicalSetOf t size) count
IsCountOfSets t size None = (count : ℕ) × ((2 ^ 64 ≤ count) × AreAsMany (IsLogicalSetOf t size) count)
