-- Logical errors: sets of errors that flip an observable and no detector, and the shortest of them.
-- Source: the distance of a circuit is the least number of errors in a logical error.
use Rattle.std.specs.Prelude.{◌≡◌, ℕ, ◌<◌, ◌≤◌, ◌^◌, true, false, List, length, All}
use Rattle.stab_search.specs.declared.answer.Answer.{Answer}
use Rattle.stab_search.specs.declared.answer.Answer.TheVariants.{Least, NoneWithin, NoneAtAll}
use Rattle.stab_parities.specs.Ascending.{IsAscending}
use Rattle.stab_search.specs.Tables.{ErrorTable, flipped_by_rows}

-- a logical error: errors of the table, in any order, that together flip no detector and at least one observable
pub record IsLogicalError (t : ErrorTable) (errors : List ℕ) : Type 0 where
  pub inside : All (λ r. r < length t.rows) errors
  pub undetected : (d : ℕ) → d < t.detectors → flipped_by_rows t.rows errors d ≡ false
  pub observed : (o : ℕ) × (t.detectors ≤ o) × (flipped_by_rows t.rows errors o ≡ true)

-- a least logical error: each of its errors once, at most `most` of them, and no logical error has fewer
pub record IsLeast (t : ErrorTable) (most : ℕ) (errors : List ℕ) : Type 0 where
  pub ascending : IsAscending errors
  pub logical : IsLogicalError t errors
  pub within : length errors ≤ most
  pub least : (others : List ℕ) → IsLogicalError t others → length errors ≤ length others

-- each logical error has more than `most` errors
abbrev pub HasNoneWithin : ErrorTable → ℕ → Type 0
HasNoneWithin t most = (errors : List ℕ) → IsLogicalError t errors → most < length errors

-- there is no logical error
abbrev pub HasNone : ErrorTable → Type 0
HasNone t = (errors : List ℕ) → IsLogicalError t errors → ⊥

-- there is a logical error
abbrev pub HasSome : ErrorTable → Type 0
HasSome t = (errors : List ℕ) × IsLogicalError t errors

-- what an answer says of a table, if a logical error of at most `most` errors was asked for; of these answers one is so, and no other
abbrev pub IsLeastAnswer : ErrorTable → (most : ℕ) → Answer → Type 0
IsLeastAnswer t most (Least errors) = IsLeast t most errors.items
IsLeastAnswer t most NoneWithin = HasNoneWithin t most × HasSome t
IsLeastAnswer t most NoneAtAll = HasNone t

-- each table has an answer, if no more errors are asked for than a list in memory can hold
abbrev pub TablesHaveAnswers : Type 0
TablesHaveAnswers = (t : ErrorTable) (most : ℕ) → most < 2 ^ 63 → (a : Answer) × IsLeastAnswer t most a
