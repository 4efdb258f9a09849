-- Laws of steps that come again with other coins: if one point of a run is as another one except for a frame, steps give at the one
-- what they give at the other, flipped.
-- Source: this project's own.
use Rattle.std.specs.Prelude.{◌≡◌, ℕ, ◌+◌, Bool, false, List, All, Option, take}
use Rattle.stab_gates.specs.declared.letter.Letter.{Letter}
use Rattle.stab_tableau.specs.Traces.{member}
use Rattle.stab_tableau.specs.Groups.{IsStabiliserGroup}
use Rattle.stab_tableau.specs.Conjugations.{IsConjugated}
use Rattle.stab_items.specs.Steps.{Step, looks_too_far}
use Rattle.stab_run.specs.Points.{Point, point_after, outputs}
use Rattle.stab_run.specs.ProgramStates.{StepFits}
use Rattle.stab_run.specs.Ends.{AgreeBack, with_coin}
use Rattle.stab_frames.specs.Flips.{flipped_output}
use Rattle.stab_frames.specs.Frames.{Frame, PointsDifferBy}
use Rattle.stab_frames.specs.FrameSteps.{frame_over, flips_over}
use Rattle.stab_frames.specs.PivotsOfSteps.{AreEnough}
use Rattle.stab_frames.specs.OtherCoins.{coins_from, pivots_between}

-- a point b differs by a frame from one that has its numbers of records and of the next coin, and agrees with the point a as far back as
-- rec[-m]
pub record DiffersBack (n m : ℕ) (f : Frame) (a b : Point) : Type 0 where
  pub seen : Point
  pub group : IsStabiliserGroup n (member seen.trace)
  pub agree : AgreeBack n m (with_coin seen.coin a) seen
  pub by_frame : PointsDifferBy n f seen b

-- the strings that stabilise after each of the first steps, from one point and from another, differ by letters alone
abbrev pub ArePropagatedOver : ℕ → (ℕ → Bool) → List Step → Point → Point → Type 0
ArePropagatedOver n coins xs a b =
    (m : ℕ) → (g : List Letter) × IsConjugated n g (member (point_after n coins (take m xs) a).trace) (member (point_after n coins (take m xs) b).trace)

-- with coins numbered from k on, at the one point and at the other
abbrev pub StepsComePropagated : Type 0
StepsComePropagated =
    (n m k da db : ℕ) (coins : ℕ → Bool) (strings : ℕ → Option (List Letter)) (xs : List Step) (f : Frame) (a b : Point) →
    All (StepFits n) xs → looks_too_far m xs ≡ false → da + k ≡ a.coin → db + k ≡ b.coin → (differs : DiffersBack n m f a b) →
    AreEnough n (coins_from da coins) (pivots_between strings (coins_from da coins) (coins_from db coins)) xs f (with_coin k differs.seen) →
    (outputs n coins xs b ≡ flipped_output (outputs n coins xs a) (flips_over n (pivots_between strings (coins_from da coins) (coins_from db coins)) xs k f))
    × DiffersBack n m (frame_over n (pivots_between strings (coins_from da coins) (coins_from db coins)) xs k f) (point_after n coins xs a) (point_after n coins xs b)
    × ArePropagatedOver n coins xs a b
