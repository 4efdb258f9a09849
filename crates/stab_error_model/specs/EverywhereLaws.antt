-- Laws of errors everywhere: a record wrong by itself is one more ! at its measurement, and any letters at any sites flip what errors of the
-- list flip.
-- Source: this project's own.
use Rattle.std.specs.Prelude.{◌≡◌, ℕ, ◌-◌, ◌<◌, nat_lt, ◌⊎◌, Bool, true, not, List, [], ◌∷◌, All, Contains, if◌then◌else◌}
use Rattle.std.specs.List.{flat_map}
use Rattle.stab_items.specs.Items.{Items}
use Rattle.stab_items.specs.Steps.{Step, collapse, product, unroll, observables_of, makes, HasDistinctQubits}
use Rattle.stab_run.specs.ProgramStates.{StepFits}
use Rattle.stab_regions.specs.SingleErrors.{SingleError, with_gates, bit, bits_in, IsDeterministic}
use Rattle.stab_regions.specs.SingleErrorLaws.{SingleErrorFits}
use Rattle.stab_jobs.specs.declared.job.ErrorLetters.{ErrorLetters}
use Rattle.stab_jobs.specs.declared.job.ErrorLetters.TheVariants as letters_of
use Rattle.stab_error_model.specs.Errors.{Error, wrong_record, single_errors_in, errors_of}
use Rattle.stab_error_model.specs.ErrorTables.{flip_together}

-- a step with one more ! at the record that it makes
abbrev pub inverted_once : Step → Step
inverted_once (collapse l q recorded inverted resets) = collapse l q recorded (not inverted) resets
inverted_once (product factors inverted) = product factors (not inverted)
inverted_once x = x

-- steps with one more ! at the record of a number
abbrev pub with_inverted : (number : ℕ) → List Step → List Step
with_inverted m [] = []
with_inverted m (x ∷ xs) = if nat_lt m (makes x) then inverted_once x ∷ xs else x ∷ with_inverted (m - makes x) xs

-- if a record goes wrong by itself, each bit that is the same for all random bits is what it is with one more ! at that record
abbrev pub WrongRecordsAreInverted : Type 0
WrongRecordsAreInverted =
    (n : ℕ) (letters : ErrorLetters) (items : Items) (number : ℕ) (flip : SingleError) (back : List SingleError) (i : ℕ) →
    All (StepFits n) (unroll items) → All HasDistinctQubits (unroll items) → Contains (errors_of true letters items) (wrong_record number flip back) →
    i < bits_in items → IsDeterministic n items i → (coins : ℕ → Bool) →
    bit n (observables_of items) coins (with_gates (flip ∷ back) (unroll items)) i ≡ bit n (observables_of items) coins (with_inverted number (unroll items)) i

-- single errors flip what others flip: each bit that is the same for all random bits, for all of them
abbrev pub FlipAlike : (n : ℕ) → Items → (single_errors others : List SingleError) → Type 0
FlipAlike n items single_errors others =
    (i : ℕ) (coins : ℕ → Bool) → i < bits_in items → IsDeterministic n items i → flip_together n items coins single_errors i ≡ flip_together n items coins others i

-- a letter at any site flips nothing, or what one error flips, if there are those of all letters
abbrev pub LettersAreErrors : Type 0
LettersAreErrors =
    (n : ℕ) (items : Items) (f : SingleError) → All (StepFits n) (unroll items) → SingleErrorFits n (unroll items) f →
    FlipAlike n items (f ∷ []) [] ⊎ ((e : Error) × Contains (errors_of true letters_of.All items) e × FlipAlike n items (f ∷ []) (single_errors_in e))

-- letters at any sites, such as those of a Pauli string between two steps, flip what some errors flip together
abbrev pub StringsAreErrors : Type 0
StringsAreErrors =
    (n : ℕ) (letters : ErrorLetters) (items : Items) (single_errors : List SingleError) → All (StepFits n) (unroll items) → All (SingleErrorFits n (unroll items)) single_errors →
    (errors : List Error) × All (λ e. Contains (errors_of true letters items) e) errors × FlipAlike n items single_errors (flat_map single_errors_in errors)
