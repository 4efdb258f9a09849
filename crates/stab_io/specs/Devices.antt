-- Devices: an input and an output as contracts see them, and what a call leaves of them.
-- Source: this project's own. Calls are those of std's `Read` and `Write`, except that each error is one counted failure.
use Rattle.std.specs.Prelude.{◌≡◌, ℕ, ◌+◌, ◌-◌, ◌^◌, ◌<◌, ◌≤◌, min, Bool, true, false, IsTrue, List, [], ◌++◌, length, take, ◌⊎◌, Result, MatchResult}
use Rattle.stab_io.specs.declared.device.DeviceFault.{DeviceFault}
use Rattle.stab_io.specs.declared.refusal.Refusal.{Refusal}
use Rattle.stab_io.specs.declared.refusal.Refusal.TheVariants.{WriteFault, OutOfMemory}
use Rattle.stab_io.specs.declared.refusal.Fault.{Fault}
use Rattle.stab_io.specs.Refusals.{whole}

-- an input: whether it is honest, the bytes that it will hand over, and how many reads failed
pub record InputView : Type 0 where
  pub honest : Bool
  pub unread : List ℕ
  pub failures : ℕ

-- an output: whether it is honest, the bytes that were written, how often it was flushed, and how many writes and flushes failed
pub record OutputView : Type 0 where
  pub honest : Bool
  pub written : List ℕ
  pub flushes : ℕ
  pub failures : ℕ

-- the greatest count that a device can keep
abbrev pub greatest_count : ℕ
greatest_count = 2 ^ 64 - 1

-- a count after one more, or the same count if it is the greatest
abbrev pub counted_up : ℕ → ℕ
counted_up count = min (count + 1) greatest_count

-- a count after one more, if there was one
abbrev pub counted_if : Bool → ℕ → ℕ
counted_if true count = counted_up count
counted_if false count = count

-- the input handed over these bytes, and did not fail
pub record Gave (old new : InputView) (bytes : List ℕ) : Type 0 where
  pub as_honest : IsTrue old.honest → IsTrue new.honest
  pub preserved : new.failures ≡ old.failures
  pub moved : IsTrue old.honest → old.unread ≡ bytes ++ new.unread

-- the input handed over these bytes, and then failed once
pub record GaveAndFailed (old new : InputView) (bytes : List ℕ) : Type 0 where
  pub as_honest : IsTrue old.honest → IsTrue new.honest
  pub failed : new.failures ≡ counted_up old.failures
  pub moved : IsTrue old.honest → old.unread ≡ bytes ++ new.unread

-- nothing is left to read
abbrev pub IsAtEnd : InputView → Type 0
IsAtEnd i = IsTrue i.honest → i.unread ≡ []

-- the input handed over this text and has no more, and did not fail
pub record GaveAll (old new : InputView) (text : List ℕ) : Type 0 where
  pub gave : Gave old new text
  pub at_end : IsTrue old.honest → new.unread ≡ []

-- a read handed over the front of the buffer, no bytes only at the end or into an empty buffer; or it failed
abbrev pub Reads : InputView → InputView → Result ℕ DeviceFault → List ℕ → Type 0
Reads old new r buf = MatchResult r (λ n. (n ≤ length buf) × Gave old new (take n buf) × (n ≡ 0 → 0 < length buf → IsAtEnd old)) (λ _. GaveAndFailed old new [])

-- What a call leaves of an output: it took these bytes and no others; a flush is counted, or none, and a failure, or none.
pub record Leaves (flushed failed : Bool) (old new : OutputView) (bytes : List ℕ) : Type 0 where
  pub as_honest : IsTrue old.honest → IsTrue new.honest
  pub failures : new.failures ≡ counted_if failed old.failures
  pub flushes : new.flushes ≡ counted_if flushed old.flushes
  pub moved : IsTrue old.honest → new.written ≡ old.written ++ bytes

-- some first bytes of these are such
abbrev pub SomeFirst : (List ℕ → Type 0) → List ℕ → Type 0
SomeFirst are bytes = (front rest : List ℕ) × (bytes ≡ front ++ rest) × are front

-- the output took these bytes and no others, and was not flushed and did not fail
abbrev pub Took : OutputView → OutputView → List ℕ → Type 0
Took old new bytes = Leaves false false old new bytes

-- the output took some first bytes of these, and then failed once; it was not flushed
abbrev pub TookAndFailed : OutputView → OutputView → List ℕ → Type 0
TookAndFailed old new bytes = SomeFirst (Leaves false true old new) bytes

-- the output took some first bytes of these, and was not flushed and did not fail
abbrev pub TookSome : OutputView → OutputView → List ℕ → Type 0
TookSome old new bytes = SomeFirst (Took old new) bytes

-- the bytes were cut off after a prefix: the output failed, or the answer is 20
abbrev pub CutOff : OutputView → OutputView → List ℕ → Fault → Type 0
CutOff old new bytes f = ((f ≡ whole WriteFault) × TookAndFailed old new bytes) ⊎ ((f ≡ whole OutOfMemory) × TookSome old new bytes)

-- a write took some first bytes, at least one if there are any; or it failed and took none
abbrev pub Writes : OutputView → OutputView → Result ℕ DeviceFault → List ℕ → Type 0
Writes old new r bytes = MatchResult r (λ n. (n ≤ length bytes) × (0 < length bytes → 0 < n) × Took old new (take n bytes)) (λ _. TookAndFailed old new [])

-- the output took these bytes, and was flushed once after them
abbrev pub TookAndFlushed : OutputView → OutputView → List ℕ → Type 0
TookAndFlushed old new bytes = Leaves true false old new bytes

-- the output took these bytes, and the one flush after them failed
abbrev pub TookAndFlushFailed : OutputView → OutputView → List ℕ → Type 0
TookAndFlushFailed old new bytes = Leaves true true old new bytes

-- a flush was made; or it failed
abbrev pub Flushes : OutputView → OutputView → Result (Unit {0}) DeviceFault → Type 0
Flushes old new r = MatchResult r (λ _. TookAndFlushed old new []) (λ _. TookAndFlushFailed old new [])

-- all the bytes were written; or some first bytes were, and the output failed
abbrev pub WritesAll : {T : Type 0} → OutputView → OutputView → List ℕ → Result T Refusal → Type 0
WritesAll old new bytes r = MatchResult r (λ _. Took old new bytes) (λ e. (e ≡ WriteFault) × TookAndFailed old new bytes)

-- the same, if the answer is a fault, which then has no line
abbrev pub WritesAllOrFault : {T : Type 0} → OutputView → OutputView → List ℕ → Result T Fault → Type 0
WritesAllOrFault old new bytes r = MatchResult r (λ _. Took old new bytes) (λ f. (f ≡ whole WriteFault) × TookAndFailed old new bytes)
