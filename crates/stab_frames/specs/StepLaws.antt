-- Laws of steps: steps keep points different by a frame, and frames multiply.
-- Source: C. Gidney, Stim (2021), for frames that follow the steps of a circuit; that they are exact, given pivots, is this project's own.
use Rattle.std.specs.Prelude.{◌≡◌, ℕ, Bool, false, List, ◌++◌, All, Option, Some, length, replicate}
use Rattle.stab_gates.specs.declared.letter.Letter.{Letter}
use Rattle.stab_gates.specs.Letters.{◌⊕◌}
use Rattle.stab_tableau.specs.Traces.{member}
use Rattle.stab_tableau.specs.Groups.{IsStabiliserGroup}
use Rattle.stab_tableau.specs.Conjugations.{IsConjugated}
use Rattle.stab_items.specs.Steps.{Step}
use Rattle.stab_run.specs.Points.{Point, origin, given, next_point, point_after, outputs}
use Rattle.stab_run.specs.ProgramStates.{StepFits}
use Rattle.stab_run.specs.Ends.{AgreeBack}
use Rattle.stab_frames.specs.Flips.{flipped_output}
use Rattle.stab_frames.specs.Frames.{Frame, PointsDifferBy, identity_frame, frame_product}
use Rattle.stab_frames.specs.RunPivots.{RunPivots, pivots_of, coins_changed}
use Rattle.stab_frames.specs.FrameSteps.{frame_after, frame_over, flips_given, flips_over}
use Rattle.stab_frames.specs.PivotsOfSteps.{IsEnoughAt, AreEnough}

-- from points that differ by a frame a step comes to points that differ by the frame after it, and gives what its flips make of the other
abbrev pub StepsKeepFrames : Type 0
StepsKeepFrames =
    (n : ℕ) (coins : ℕ → Bool) (pivots : RunPivots) (x : Step) (f : Frame) (a b : Point) →
    StepFits n x → IsStabiliserGroup n (member a.trace) → IsEnoughAt n pivots x f.letters a → PointsDifferBy n f a b →
    (given n (coins_changed coins pivots.changes) x b ≡ flipped_output (given n coins x a) (flips_given n pivots x a.coin f))
    × PointsDifferBy n (frame_after n pivots x a.coin f) (next_point n coins x a) (next_point n (coins_changed coins pivots.changes) x b)

-- so do steps
abbrev pub RunsKeepFrames : Type 0
RunsKeepFrames =
    (n : ℕ) (coins : ℕ → Bool) (pivots : RunPivots) (xs : List Step) (f : Frame) (a b : Point) →
    All (StepFits n) xs → IsStabiliserGroup n (member a.trace) → AreEnough n coins pivots xs f a → PointsDifferBy n f a b →
    (outputs n (coins_changed coins pivots.changes) xs b ≡ flipped_output (outputs n coins xs a) (flips_over n pivots xs a.coin f))
    × PointsDifferBy n (frame_over n pivots xs a.coin f) (point_after n coins xs a) (point_after n (coins_changed coins pivots.changes) xs b)

-- if steps go from the start the strings that stabilise are a group
abbrev pub PointsHaveGroups : Type 0
PointsHaveGroups =
    (n : ℕ) (coins : ℕ → Bool) (xs : List Step) → All (StepFits n) xs → IsStabiliserGroup n (member (point_after n coins xs origin).trace)

-- frames between points: the identity, one after another, and back
abbrev pub FramesCompose : Type 0
FramesCompose =
    ((n : ℕ) (a : Point) → PointsDifferBy n (identity_frame n (length a.records)) a a)
    × ((n : ℕ) (f g : Frame) (a b c : Point) → PointsDifferBy n f a b → PointsDifferBy n g b c → PointsDifferBy n (frame_product f g) a c)
    × ((n : ℕ) (f : Frame) (a b : Point) → PointsDifferBy n f a b → PointsDifferBy n f b a)

-- pivots have n letters
abbrev pub AreStrings : ℕ → (ℕ → Option (List Letter)) → Type 0
AreStrings n strings = (t : ℕ) (s : List Letter) → strings t ≡ Some s → length s ≡ n

-- what the product of two frames flips is what each flips, added; so it is if some coins change in the one and some in the other
abbrev pub FramesAdd : Type 0
FramesAdd =
    (n : ℕ) (strings : ℕ → Option (List Letter)) (x y : ℕ → Bool) (xs : List Step) (coin : ℕ) (f g : Frame) →
    All (StepFits n) xs → AreStrings n strings → length f.letters ≡ n → length g.letters ≡ n → length g.flips ≡ length f.flips →
    (flips_over n (pivots_of strings (λ t. x t ⊕ y t)) xs coin (frame_product f g)
    ≡ flipped_output (flips_over n (pivots_of strings x) xs coin f) (flips_over n (pivots_of strings y) xs coin g))
    × (frame_over n (pivots_of strings (λ t. x t ⊕ y t)) xs coin (frame_product f g)
    ≡ frame_product (frame_over n (pivots_of strings x) xs coin f) (frame_over n (pivots_of strings y) xs coin g))

-- if a frame flips no sign and its last m flips are 0, both points agree as far back as rec[-m]
abbrev pub FramesEnd : Type 0
FramesEnd =
    (n m : ℕ) (f : Frame) (early : List Bool) (a b : Point) → PointsDifferBy n f a b → IsConjugated n f.letters (member a.trace) (member a.trace) →
    f.flips ≡ early ++ replicate m false → AgreeBack n m a b
