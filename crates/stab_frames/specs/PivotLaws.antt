-- Laws of pivots: which pivots serve which frames, and where pivots come from.
-- Source: this project's own, after the two cases of a measurement in Aaronson and Gottesman 2004, section III.
use Rattle.std.specs.Prelude.{◌≡◌, ℕ, ◌+◌, ◌<◌, Bool, false, List, All, Option, is_some, length, take, slice_index_or}
use Rattle.stab_gates.specs.declared.letter.Letter.{Letter}
use Rattle.stab_pauli.specs.Paulis.{Signed}
use Rattle.stab_tableau.specs.Traces.{Event, member, Fits, IsSound}
use Rattle.stab_tableau.specs.Groups.{IsStabiliserGroup}
use Rattle.stab_items.specs.Steps.{Step}
use Rattle.stab_run.specs.Points.{Point, origin, all_coins_of, outputs}
use Rattle.stab_run.specs.ProgramStates.{StepFits}
use Rattle.stab_frames.specs.Frames.{Frame}
use Rattle.stab_frames.specs.RunPivots.{RunPivots, no_strings, IsPivotOf}
use Rattle.stab_frames.specs.PivotsOfSteps.{AreRight, AreEnough, AreFlippedPivots}

-- pivots that are right are enough for each frame, whichever coins the other run takes
abbrev pub RightPivotsAreEnough : Type 0
RightPivotsAreEnough =
    (n : ℕ) (coins : ℕ → Bool) (pivots : RunPivots) (xs : List Step) (f : Frame) (a : Point) →
    AreRight n coins pivots.strings xs a → AreEnough n coins pivots xs f a

-- if the coins are flipped with the frame it needs no strings
abbrev pub FlippedCoinsNeedNoPivots : Type 0
FlippedCoinsNeedNoPivots =
    (n : ℕ) (coins changes : ℕ → Bool) (xs : List Step) (f : Frame) (a : Point) →
    AreFlippedPivots n changes xs a.coin f → AreEnough n coins (no_strings changes) xs f a

-- each frame has such coins for the steps after it, whatever the run
abbrev pub FramesHaveCoins : Type 0
FramesHaveCoins = (n : ℕ) (xs : List Step) (coin : ℕ) (f : Frame) → (changes : ℕ → Bool) × AreFlippedPivots n changes xs coin f

-- pivots that are enough for steps are enough for the first of them
abbrev pub PivotsAreEnoughBefore : Type 0
PivotsAreEnoughBefore =
    (n : ℕ) (coins : ℕ → Bool) (pivots : RunPivots) (i : ℕ) (xs : List Step) (f : Frame) (a : Point) →
    AreEnough n coins pivots xs f a → AreEnough n coins pivots (take i xs) f a

-- each measurement in a sound trace has a pivot
abbrev pub MeasurementsHavePivots : Type 0
MeasurementsHavePivots =
    (n : ℕ) (trace : List Event) → Fits n trace → IsSound trace → (measured : Signed) → length measured.letters ≡ n →
    (pivot : Option (List Letter)) × IsPivotOf n (member trace) measured pivot

-- so each run has right pivots
abbrev pub RunsHavePivots : Type 0
RunsHavePivots =
    (n : ℕ) (coins : ℕ → Bool) (xs : List Step) → All (StepFits n) xs → (strings : ℕ → Option (List Letter)) × AreRight n coins strings xs origin

-- right pivots have strings exactly if the randomness that the steps give says that the coin decided
abbrev pub RandomnessDeterminesPivots : Type 0
RandomnessDeterminesPivots =
    (n : ℕ) (coins : ℕ → Bool) (strings : ℕ → Option (List Letter)) (xs : List Step) (a : Point) →
    All (StepFits n) xs → IsStabiliserGroup n (member a.trace) → AreRight n coins strings xs a →
    (t : ℕ) → t < all_coins_of xs → slice_index_or (outputs n coins xs a).free t false ≡ is_some (strings (a.coin + t))
