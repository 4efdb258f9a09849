-- Graph-like errors: errors that flip at most two detectors, as edges of a graph do, and the least logical error made of these alone.
-- Source: C. Gidney, Stim: a fast stabilizer circuit simulator (2021), shortest graph-like errors.
use Rattle.std.specs.Prelude.{◌≡◌, ℕ, ◌<◌, ◌≤◌, ◌⊎◌, true, List, length, All}
use Rattle.stab_search.specs.declared.answer.Answer.{Answer}
use Rattle.stab_search.specs.declared.answer.Answer.TheVariants.{Least, NoneWithin, NoneAtAll}
use Rattle.stab_parities.specs.Ascending.{IsAscending}
use Rattle.stab_search.specs.Tables.{ErrorTable}
use Rattle.stab_parities.specs.OddNumbers.{odd, row}
use Rattle.stab_search.specs.LogicalErrors.{IsLogicalError}

-- a graph-like row: each detector that it flips is one of two
abbrev pub IsGraphlike : (detectors : ℕ) → List ℕ → Type 0
IsGraphlike detectors is = (a b : ℕ) × ((d : ℕ) → d < detectors → odd d is ≡ true → (d ≡ a) ⊎ (d ≡ b))

-- a graph-like logical error: a logical error each of whose errors is graph-like
pub record IsGraphlikeError (t : ErrorTable) (errors : List ℕ) : Type 0 where
  pub logical : IsLogicalError t errors
  pub graphlike : All (λ r. IsGraphlike t.detectors (row t.rows r)) errors

-- a least one: each of its errors once, at most `most` of them, and no graph-like logical error has fewer
pub record IsLeastGraphlike (t : ErrorTable) (most : ℕ) (errors : List ℕ) : Type 0 where
  pub ascending : IsAscending errors
  pub logical : IsGraphlikeError t errors
  pub within : length errors ≤ most
  pub least : (others : List ℕ) → IsGraphlikeError t others → length errors ≤ length others

-- each graph-like logical error has more than `most` errors
abbrev pub HasNoGraphlikeWithin : ErrorTable → ℕ → Type 0
HasNoGraphlikeWithin t most = (errors : List ℕ) → IsGraphlikeError t errors → most < length errors

-- what an answer says of a table, if a graph-like logical error of at most `most` errors was asked for
abbrev pub IsGraphlikeAnswer : ErrorTable → (most : ℕ) → Answer → Type 0
IsGraphlikeAnswer t most (Least errors) = IsLeastGraphlike t most errors.items
IsGraphlikeAnswer t most NoneWithin = HasNoGraphlikeWithin t most × ((errors : List ℕ) × IsGraphlikeError t errors)
IsGraphlikeAnswer t most NoneAtAll = (errors : List ℕ) → IsGraphlikeError t errors → ⊥
