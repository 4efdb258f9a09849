-- Front targets: targets that are read off the front of several words.
-- Source: this project's own.
use Rattle.std.specs.Prelude.{◌≡◌, ◌<◌, ℕ, List, [], ◌∷◌, ◌++◌, length, Option, None, Some, Result, Ok, Err, ◌⊎◌}
use Rattle.std.specs.Borrow.{Bor}
use Rattle.stab_io.specs.declared.refusal.Refusal.{Refusal}
use Rattle.stab_io.specs.declared.refusal.Refusal.TheVariants.{OutOfMemory}
use Rattle.stab_instructions.specs.Results.{◌>>=◌}
use Rattle.stab_instructions.specs.declared.control.Control.TheVariants as control
use Rattle.stab_instructions.specs.declared.control.ControlledPair.{ControlledPair}
use Rattle.stab_instructions.specs.Words.{words}
use Rattle.stab_instructions.specs.Targets.{qubit_of}
use Rattle.stab_instructions.specs.Controls.{pair_of}

-- the first word means this target, and these bytes follow it
abbrev pub BeginsWithTarget : {X : Type 0} → (List ℕ → Result X Refusal) → List ℕ → X → List ℕ → Type 0
BeginsWithTarget meaning bs target rest = (word : List ℕ) × (words bs ≡ word ∷ words rest) × (meaning word ≡ Ok target)

-- the call gave the first word's target and what follows it, none if there is no word, or failed as that word does, or for lack of memory
abbrev pub GivesFirst : {X : Type 0} → (List ℕ → Result X Refusal) → List ℕ → Result (Option (X × Bor (List ℕ))) Refusal → Type 0
GivesFirst meaning bs (Ok None) = words bs ≡ []
GivesFirst meaning bs (Ok (Some first)) = BeginsWithTarget meaning bs first.0 first.1.now
GivesFirst meaning bs (Err r) = (r ≡ OutOfMemory) ⊎ ((word : List ℕ) × (more : List (List ℕ)) × (words bs ≡ word ∷ more) × (meaning word ≡ Err r))

-- what follows the first word is shorter
abbrev pub IsShorterRest : {X : Type 0} → List ℕ → Result (Option (X × Bor (List ℕ))) Refusal → Type 0
IsShorterRest bs (Ok (Some first)) = length first.1.now < length bs
IsShorterRest bs answer = Unit {0}

-- one before what is read after it, or the refusal of that
abbrev pub begun_with : {X E : Type 0} → X → Result (List X) E → Result (List X) E
begun_with x given = given >>= λ more. Ok (x ∷ more)

-- those before what is read after them, or the refusal of that
abbrev pub follows : {X E : Type 0} → List X → Result (List X) E → Result (List X) E
follows front given = given >>= λ more. Ok (front ++ more)

-- the pair of a qubit and that of a word
abbrev pub second_of : ℕ → List ℕ → Result ControlledPair Refusal
second_of first word = qubit_of word >>= pair_of (control.Qubit first)
