-- Pivots of steps: pivots of what the steps of a run measure, and whether they are enough for a frame that follows these steps.
-- Source: this project's own.
use Rattle.std.specs.Prelude.{◌≡◌, ℕ, ◌+◌, Bool, List, [], ◌∷◌, Option, IfSome}
use Rattle.stab_gates.specs.declared.letter.Letter.{Letter}
use Rattle.stab_pauli.specs.Paulis.{strings_anticommute}
use Rattle.stab_tableau.specs.Traces.{member}
use Rattle.stab_items.specs.Steps.{Step}
use Rattle.stab_run.specs.Runs.{measured_by}
use Rattle.stab_run.specs.Points.{Point, coins_of, next_point}
use Rattle.stab_frames.specs.Frames.{Frame}
use Rattle.stab_frames.specs.RunPivots.{RunPivots, no_strings, IsPivotOf, IsEnough}
use Rattle.stab_frames.specs.FrameSteps.{frame_after}

-- the pivot of what a step at a point measures is right
abbrev pub IsRightAt : ℕ → (ℕ → Option (List Letter)) → Step → Point → Type 0
IsRightAt n strings x a = IfSome (measured_by n x) (λ m. IsPivotOf n (member a.trace) m (strings a.coin))

-- the pivots of what steps measure are right
abbrev pub AreRight : ℕ → (ℕ → Bool) → (ℕ → Option (List Letter)) → List Step → Point → Type 0
AreRight n coins strings [] a = Unit {0}
AreRight n coins strings (x ∷ xs) a = IsRightAt n strings x a × AreRight n coins strings xs (next_point n coins x a)

-- the pivot of what a step at a point measures is enough for a frame
abbrev pub IsEnoughAt : ℕ → RunPivots → Step → List Letter → Point → Type 0
IsEnoughAt n pivots x f a = IfSome (measured_by n x) (λ m. IsEnough n (member a.trace) m f (pivots.changes a.coin) (pivots.strings a.coin))

-- the pivots of what steps measure are enough for the frame before the first of them
abbrev pub AreEnough : ℕ → (ℕ → Bool) → RunPivots → List Step → Frame → Point → Type 0
AreEnough n coins pivots [] f a = Unit {0}
AreEnough n coins pivots (x ∷ xs) f a =
    IsEnoughAt n pivots x f.letters a × AreEnough n coins pivots xs (frame_after n pivots x a.coin f) (next_point n coins x a)

-- the coin of a step's measurement is changed exactly if the frame anticommutes with what is measured
abbrev pub IsFlippedAt : ℕ → (ℕ → Bool) → Step → ℕ → Frame → Type 0
IsFlippedAt n changes x coin f = IfSome (measured_by n x) (λ m. changes coin ≡ strings_anticommute f.letters m.letters)

-- the coins of steps are flipped with the frame that follows them, which then is multiplied by no string at a measurement
abbrev pub AreFlippedPivots : ℕ → (ℕ → Bool) → List Step → ℕ → Frame → Type 0
AreFlippedPivots n changes [] coin f = Unit {0}
AreFlippedPivots n changes (x ∷ xs) coin f =
    IsFlippedAt n changes x coin f × AreFlippedPivots n changes xs (coin + coins_of x) (frame_after n (no_strings changes) x coin f)
