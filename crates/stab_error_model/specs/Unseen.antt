-- Unseen sets: errors that flip an observable and no detector, and the least number of them, by runs; of all errors, or of graph-like ones alone.
-- Source: this project's own.
use Rattle.std.specs.Prelude.{◌≡◌, ℕ, ◌+◌, ◌<◌, ◌≤◌, ◌^◌, ◌⊎◌, Bool, true, false, List, length, map, slice_index_or, All, Contains, Option, Some, None, Result, Ok, Err}
use Rattle.std.specs.Option.{unwrap_or}
use Rattle.std.specs.List.{flat_map}
use Rattle.stab_gates.specs.declared.letter.Letter.TheVariants.{I}
use Rattle.stab_items.specs.Items.{Items}
use Rattle.stab_items.specs.Steps.{unroll, observables_of, detectors_of}
use Rattle.stab_regions.specs.SingleErrors.{IsDeterministic, single_error_on, in_front}
use Rattle.stab_parities.specs.Ascending.{IsAscending}
use Rattle.stab_search.specs.declared.answer.Answer.{Answer}
use Rattle.stab_search.specs.declared.answer.Answer.TheVariants.{Least, NoneWithin, NoneAtAll}
use Rattle.stab_search.specs.Counts.{AreAsMany}
use Rattle.stab_search.specs.Progress.{Heard, ReportsSearch}
use Rattle.stab_error_model.specs.Errors.{Error, letter, single_errors_in}
use Rattle.stab_error_model.specs.ErrorTables.{flip_together}

-- an observable is one that is asked for: any, or the one of a number
abbrev pub IsAskedFor : (observable : Option ℕ) → ℕ → Type 0
IsAskedFor None number = Unit {0}
IsAskedFor (Some j) number = number ≡ j

-- errors that go wrong together are unseen: for all random bits, they flip no deterministic detector, and a deterministic observable that is
-- asked for
pub record AreUnseen (n : ℕ) (items : Items) (observable : Option ℕ) (errors : List Error) : Type 0 where
  pub detectors : (coins : ℕ → Bool) (d : ℕ) → d < detectors_of (unroll items) → IsDeterministic n items d → flip_together n items coins (flat_map single_errors_in errors) d ≡ false
  pub number : ℕ
  pub asked : IsAskedFor observable number
  pub in_range : number < observables_of items
  pub deterministic : IsDeterministic n items (detectors_of (unroll items) + number)
  pub flipped : (coins : ℕ → Bool) → flip_together n items coins (flat_map single_errors_in errors) (detectors_of (unroll items) + number) ≡ true

-- a graph-like error flips at most two detectors: for all random bits, each deterministic detector that it flips is one of two
abbrev pub FlipsTwo : (n : ℕ) → Items → Error → Type 0
FlipsTwo n items e =
    (a b : ℕ) × ((coins : ℕ → Bool) (d : ℕ) → d < detectors_of (unroll items) → IsDeterministic n items d → flip_together n items coins (single_errors_in e) d ≡ true → (d ≡ a) ⊎ (d ≡ b))

-- some of these errors are unseen together, and graph-like if that is asked
pub record AreUnseenOf (graphlike : Bool) (observable : Option ℕ) (n : ℕ) (items : Items) (all errors : List Error) : Type 0 where
  pub of : All (λ e. Contains all e) errors
  pub unseen : AreUnseen n items observable errors
  pub two : graphlike ≡ true → All (FlipsTwo n items) errors

-- a least unseen set of these errors: no list of fewer of them is unseen
pub record AreLeastUnseen (graphlike : Bool) (observable : Option ℕ) (n : ℕ) (items : Items) (all errors : List Error) : Type 0 where
  pub unseen : AreUnseenOf graphlike observable n items all errors
  pub least : (others : List Error) → AreUnseenOf graphlike observable n items all others → length errors ≤ length others

-- each unseen list of these errors has more than this many
abbrev pub NoneUnseenWithin : (graphlike : Bool) → (observable : Option ℕ) → (n : ℕ) → Items → (all : List Error) → ℕ → Type 0
NoneUnseenWithin graphlike observable n items all most = (others : List Error) → AreUnseenOf graphlike observable n items all others → most < length others

-- some list of them is unseen
abbrev pub SomeUnseen : (graphlike : Bool) → (observable : Option ℕ) → (n : ℕ) → Items → (all : List Error) → Type 0
SomeUnseen graphlike observable n items all = (others : List Error) × AreUnseenOf graphlike observable n items all others

-- no list of these errors is unseen
abbrev pub NoneUnseen : (graphlike : Bool) → (observable : Option ℕ) → (n : ℕ) → Items → (all : List Error) → Type 0
NoneUnseen graphlike observable n items all = (others : List Error) → AreUnseenOf graphlike observable n items all others → ⊥

-- the errors of these numbers
abbrev pub error_at : List Error → ℕ → Error
error_at all k = slice_index_or all k (letter (single_error_on 0 (in_front 0) I))

abbrev pub errors_at_numbers : List Error → List ℕ → List Error
errors_at_numbers all numbers = map (error_at all) numbers

-- at most as many as were asked for, if a number was
abbrev pub IsWithinAsked : (most : Option ℕ) → ℕ → Type 0
IsWithinAsked None k = Unit {0}
IsWithinAsked (Some most) k = k ≤ most

-- a least unseen set by its numbers: each once, in ascending order, and at most as many as were asked for
pub record IsLeastSet (graphlike : Bool) (observable : Option ℕ) (n : ℕ) (items : Items) (all : List Error) (most : Option ℕ) (numbers : List ℕ) : Type 0 where
  pub ascending : IsAscending numbers
  pub within : IsWithinAsked most (length numbers)
  pub inside : All (λ k. k < length all) numbers
  pub least : AreLeastUnseen graphlike observable n items all (errors_at_numbers all numbers)

-- what an answer says of a circuit's errors: a least unseen set, by its numbers; or that there is none; or that there is one, but none of
-- at most as many as were asked for
abbrev pub IsDistance : (graphlike : Bool) → (observable : Option ℕ) → (n : ℕ) → Items → (all : List Error) → (most : Option ℕ) → Answer → Type 0
IsDistance graphlike observable n items all most (Least numbers) = IsLeastSet graphlike observable n items all most numbers.items
IsDistance graphlike observable n items all most NoneAtAll = NoneUnseen graphlike observable n items all
IsDistance graphlike observable n items all (Some most) NoneWithin = NoneUnseenWithin graphlike observable n items all most × SomeUnseen graphlike observable n items all
IsDistance graphlike observable n items all None NoneWithin = ⊥

-- what a count says of all errors of a circuit: how many sets are a least unseen one, each by its numbers, or that their number takes more than
-- 64 bits
abbrev pub IsSetCount : (observable : Option ℕ) → (n : ℕ) → Items → (all : List Error) → (most : Option ℕ) → Option ℕ → Type 0
IsSetCount observable n items all most (Some count) = AreAsMany (IsLeastSet false observable n items all most) count
IsSetCount observable n items all most None = (count : ℕ) × ((2 ^ 64 ≤ count) × AreAsMany (IsLeastSet false observable n items all most) count)

-- what is heard of a search among a circuit's errors; for one observable it may be nothing, if memory was refused before the search began
abbrev pub ReportsUnseen : {E : Type 0} → (graphlike : Bool) → (observable : Option ℕ) → (n : ℕ) → Items → (all : List Error) → (most : Option ℕ) → Option (List Heard) → Option (List Heard) → Result Answer E → Type 0
ReportsUnseen graphlike None n items all most old new result = ReportsSearch (length all) (unwrap_or most (length all)) (NoneUnseenWithin graphlike None n items all) old new result
ReportsUnseen {E} graphlike (Some j) n items all most old new (Ok a) = ReportsSearch {E = E} (length all) (unwrap_or most (length all)) (NoneUnseenWithin graphlike (Some j) n items all) old new (Ok a)
ReportsUnseen graphlike (Some j) n items all most old new (Err e) = (new ≡ old) ⊎ ReportsSearch (length all) (unwrap_or most (length all)) (NoneUnseenWithin graphlike (Some j) n items all) old new (Err e)
