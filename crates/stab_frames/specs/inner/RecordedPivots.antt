-- Recorded pivots: what a run keeps of a step that it comes to.
-- Source: this project's own.
use Rattle.std.specs.Prelude.{◌≡◌, ℕ, ◌+◌, ◌≤◌, Bool, true, false, List, [], ◌∷◌, Option, Some, None, All, length}
use Rattle.stab_gates.specs.declared.letter.Letter.{Letter}
use Rattle.stab_pauli.specs.Paulis.{Signed}
use Rattle.stab_tableau.specs.Rules.{is_random_by}
use Rattle.stab_tableau.specs.Pivots.{IsPivot}
use Rattle.stab_items.specs.Steps.{Step}
use Rattle.stab_run.specs.Records.{ones}
use Rattle.stab_run.specs.Runs.{measured_by}
use Rattle.stab_run.specs.ProgramStates.{ProgramState, IsRun}
use Rattle.stab_items.specs.Steps.{LooksWithin}
use Rattle.stab_frames.specs.declared.pivot_recorder.PivotRecorder.{PivotRecorder}
use Rattle.stab_frames.specs.Pivots.{PivotsState, stored_with, KeepsTrue}

-- another string was put after those that are stored: a pivot of what is measured
pub record IsAdded (n : ℕ) (member : Signed → Bool) (m : Signed) (old new : PivotsState) : Type 0 where
  pub string : List Letter
  pub is_pivot : IsPivot n member m string
  pub strings : new.strings ≡ stored_with old.most old.strings (string ∷ [])

-- if the outcome of what is measured is random, a string is added, and else none
abbrev pub KeepsPivotsOf : ℕ → (Signed → Bool) → Option Signed → PivotsState → PivotsState → Type 0
KeepsPivotsOf n member None old new = new.strings ≡ old.strings
KeepsPivotsOf n member (Some m) old new =
    (is_random_by member m ≡ true → IsAdded n member m old new) × (is_random_by member m ≡ false → new.strings ≡ old.strings)

-- the same for a step
abbrev pub KeepsPivots : ℕ → (Signed → Bool) → Step → PivotsState → PivotsState → Type 0
KeepsPivots n member x old new = KeepsPivotsOf n member (measured_by n x) old new

-- a run passed steps and recorded them: its strings are stored as they are to be, and no step looks further back than is recorded
pub record PivotsSteps (n : ℕ) (coins : ℕ → Bool) (xs : List Step) (window : ℕ) (stored following : PivotsState) (old new : ProgramState) : Type 0 where
  pub run : IsRun n coins xs old new
  pub has_pivots : KeepsTrue n coins xs stored following old new
  pub within : All (LooksWithin window) xs

-- strings of a run on n qubits: the one for products, and those of its recorder
pub record AreOnQubits (n : ℕ) (product : Signed) (recorder : PivotRecorder) : Type 0 where
  pub string : length product.letters ≡ n
  pub scratch : length recorder.string.letters ≡ n
  pub strings : recorder.strings.qubits ≡ n

-- a recorder may store as many strings as before, and looks back no less far
pub record RecordsNoLess (old new : PivotRecorder) : Type 0 where
  pub most : new.strings.most ≡ old.strings.most
  pub raised : old.window ≤ new.window

-- steps were carried out and recorded, and asked for a coin only if it decided: `later` and `after` count steps and coins asked for where
-- `applied` and `asked` did so before
pub record RecordsSteps (n : ℕ) (coins : ℕ → Bool) (xs : List Step) (recorder following : PivotRecorder) (old new : ProgramState) (applied later asked after : ℕ) : Type 0 where
  pub counted : later ≡ applied + length xs
  pub asks_random : after + ones old.output.free ≤ asked + ones new.output.free
  pub pivots : PivotsSteps n coins xs following.window recorder.strings following.strings old new
