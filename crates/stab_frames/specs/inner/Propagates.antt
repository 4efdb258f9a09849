-- Propagates: a frame on its way over one step, and what it must know of a measurement.
-- Source: this project's own.
use Rattle.std.specs.Prelude.{◌≡◌, ℕ, ◌+◌, ◌<◌, Bool, true, false, List, [], ◌∷◌, None, IfSome, slice_index_or, length, replicate, take}
use Rattle.stab_gates.specs.declared.letter.Letter.{Letter}
use Rattle.stab_gates.specs.Letters.{◌⊕◌, letters_anticommute}
use Rattle.stab_pauli.specs.Paulis.{strings_anticommute}
use Rattle.stab_tableau.specs.Gates.{letter_at}
use Rattle.stab_instructions.specs.declared.product.Factor.{Factor}
use Rattle.stab_instructions.specs.Axes.{letter_of}
use Rattle.stab_items.specs.Steps.{Step}
use Rattle.stab_run.specs.Records.{ones}
use Rattle.stab_run.specs.Runs.{measured_by}
use Rattle.stab_run.specs.Points.{RunOutput, nothing, joined, coins_of, all_coins_of}
use Rattle.stab_frames.specs.Frames.{Frame}
use Rattle.stab_frames.specs.RunPivots.{RunPivots, pivots_of}
use Rattle.stab_frames.specs.FrameSteps.{flip_by, letters_for, letters_after, flips_given, frame_after}
use Rattle.stab_frames.specs.Pivots.{pivot_at}
use Rattle.stab_frames.specs.Propagations.{PropagationState, frame_at, IsPlaced, PropagatesWith}
use Rattle.stab_frames.specs.inner.Draws.{IsDrawn, AreDrawn}

-- whether a string anticommutes with a product, by its factors one after another
abbrev pub factors_anticommute : List Letter → List Factor → Bool
factors_anticommute f [] = false
factors_anticommute f (x ∷ xs) = letters_anticommute (letter_at f x.qubit) (letter_of x.letter) ⊕ factors_anticommute f xs

-- what is flipped by measurements with records, if it is none
abbrev pub none_flipped : ℕ → RunOutput
none_flipped k = record nothing { records = replicate k false; free = replicate k false; outcomes = replicate k false }

-- past the coin of something with which the frame anticommutes or not, whose outcome is flipped or not
pub record IsPropagatedWith (pivots : RunPivots) (anticommuting flip : Bool) (old new : PropagationState) : Type 0 where
  pub outcome : flip ≡ flip_by (pivots.strings old.coin) (pivots.changes old.coin) anticommuting
  pub letters : new.letters ≡ letters_for (pivots.strings old.coin) (pivots.changes old.coin) anticommuting old.letters
  pub flips : new.flips ≡ old.flips
  pub coin : new.coin ≡ old.coin + 1

-- over one step
pub record StepsWith (n : ℕ) (pivots : RunPivots) (x : Step) (old new : PropagationState) : Type 0 where
  pub letters : new.letters ≡ letters_after n pivots x old.coin (frame_at 0 old)
  pub flips : new.flips ≡ joined old.flips (flips_given n pivots x old.coin (frame_at 0 old))
  pub coin : new.coin ≡ old.coin + coins_of x

-- if an outcome is flipped otherwise than the frame has it, its string was stored, or it was fixed
abbrev pub IsDeterminedBy : List (List Letter) → List Bool → ℕ → (change anticommuting : Bool) → Type 0
IsDeterminedBy strings free coin change anticommuting = change ⊕ anticommuting ≡ true → pivot_at strings free coin ≡ None → slice_index_or free coin false ≡ false

-- the same at a step
abbrev pub IsStepDetermined : ℕ → List (List Letter) → List Bool → (ℕ → Bool) → Step → ℕ → List Letter → Type 0
IsStepDetermined n strings free changes x coin f = IfSome (measured_by n x) (λ m. IsDeterminedBy strings free coin (changes coin) (strings_anticommute f m.letters))

-- and at steps
abbrev pub AreDetermined : ℕ → List (List Letter) → List Bool → (ℕ → Bool) → List Step → ℕ → Frame → Type 0
AreDetermined n strings free changes [] coin f = Unit {0}
AreDetermined n strings free changes (x ∷ xs) coin f =
    IsStepDetermined n strings free changes x coin f.letters
    × AreDetermined n strings free changes xs (coin + coins_of x) (frame_after n (pivots_of (pivot_at strings free) changes) x coin f)

-- past a coin, whichever coins differ as is drawn, and what it had to know was stored
pub record IsPropagated (strings : List (List Letter)) (free : List Bool) (draw : ℕ → Bool) (anticommuting flip : Bool) (old new : PropagationState) : Type 0 where
  pub over : (changes : ℕ → Bool) → IsDrawn free draw changes old.coin → IsPropagatedWith (pivots_of (pivot_at strings free) changes) anticommuting flip old new
  pub determined : (changes : ℕ → Bool) → IsDrawn free draw changes old.coin → IsDeterminedBy strings free old.coin (changes old.coin) anticommuting
  pub coin : new.coin ≡ old.coin + 1
  pub placed : IsPlaced free new

-- a frame of n letters was propagated over steps, whichever coins differ as is drawn, and what it had to know of their measurements was stored
pub record GoesOver (n : ℕ) (strings : List (List Letter)) (free : List Bool) (draw : ℕ → Bool) (xs : List Step) (old new : PropagationState) : Type 0 where
  pub over : (changes : ℕ → Bool) → AreDrawn free draw changes xs old.coin → PropagatesWith n (pivots_of (pivot_at strings free) changes) xs old new
  pub determined : (changes : ℕ → Bool) → AreDrawn free draw changes xs old.coin → (base : ℕ) → AreDetermined n strings free changes xs old.coin (frame_at base old)
  pub coin : new.coin ≡ old.coin + all_coins_of xs
  pub placed : IsPlaced free new
  pub size : length new.letters ≡ n

-- whatever strings were stored, whichever outcomes were random, and whatever is drawn
abbrev pub GoesWithoutCoins : ℕ → List Step → PropagationState → PropagationState → Type 0
GoesWithoutCoins n xs old new =
    (strings : List (List Letter)) (free : List Bool) (draw : ℕ → Bool) → IsPlaced free old → GoesOver n strings free draw xs old new

-- the string of a random outcome before a coin was not stored
abbrev pub IsMissing : List (List Letter) → List Bool → ℕ → Type 0
IsMissing strings free coin = length strings < ones (take coin free)

-- a frame was propagated over a step or, for want of a string, is as it was
pub record Goes (n : ℕ) (strings : List (List Letter)) (free : List Bool) (draw : ℕ → Bool) (x : Step) (old new : PropagationState) (gone : Bool) : Type 0 where
  pub went : gone ≡ true → GoesOver n strings free draw (x ∷ []) old new
  pub same : gone ≡ false → new ≡ old
  pub missing : gone ≡ false → IsMissing strings free (old.coin + coins_of x)
