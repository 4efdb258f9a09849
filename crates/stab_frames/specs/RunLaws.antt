-- Laws of whole runs: the run of an edited circuit, or with other coins, is the old one, flipped.
-- Source: this project's own.
use Rattle.std.specs.Prelude.{◌≡◌, ℕ, ◌<◌, Bool, List, ◌++◌, All, Option, length}
use Rattle.stab_gates.specs.declared.letter.Letter.{Letter}
use Rattle.stab_pauli.specs.Paulis.{string_product}
use Rattle.stab_tableau.specs.Traces.{member}
use Rattle.stab_tableau.specs.Groups.{SameGroup}
use Rattle.stab_tableau.specs.Tableaus.{TableauState, stabilises}
use Rattle.stab_items.specs.Steps.{Step}
use Rattle.stab_run.specs.Points.{RunOutput, origin, joined, point_after, outputs}
use Rattle.stab_run.specs.ProgramStates.{StepFits}
use Rattle.stab_run.specs.Cuts.{lengths_of}
use Rattle.stab_frames.specs.Flips.{unflipped}
use Rattle.stab_frames.specs.Frames.{Frame, PointsDifferBy, identity_frame}
use Rattle.stab_frames.specs.RunPivots.{RunPivots, same_coins, coins_changed}
use Rattle.stab_frames.specs.FrameSteps.{frame_over, flips_over}
use Rattle.stab_frames.specs.PivotsOfSteps.{AreEnough}
use Rattle.stab_frames.specs.Starts.{letters_on}
use Rattle.stab_frames.specs.FirstSteps.{AreFronts, IsFlippedRun, with_letters, edit_frame, edit_flips}
use Rattle.stab_frames.specs.PropagatedTableaus.{propagated_tableau}

-- after fronts that differ by a frame the same steps make the one run the other, flipped, and come to points that differ by a frame
abbrev pub FrontsFlip : Type 0
FrontsFlip =
    (n : ℕ) (coins : ℕ → Bool) (pivots : RunPivots) (old new back : List Step) (f : Frame) (flips : RunOutput) →
    All (StepFits n) old → All (StepFits n) back → AreFronts n coins (coins_changed coins pivots.changes) old new f flips →
    AreEnough n coins pivots back f (point_after n coins old origin) →
    IsFlippedRun n coins (coins_changed coins pivots.changes) (old ++ back) (new ++ back) (joined flips (flips_over n pivots back (point_after n coins old origin).coin f))
    × PointsDifferBy n (frame_over n pivots back (point_after n coins old origin).coin f) (point_after n coins (old ++ back) origin)
    (point_after n (coins_changed coins pivots.changes) (new ++ back) origin)

-- with these steps they are fronts again
abbrev pub FrontsGoOn : Type 0
FrontsGoOn =
    (n : ℕ) (coins : ℕ → Bool) (pivots : RunPivots) (old new back : List Step) (f : Frame) (flips : RunOutput) →
    All (StepFits n) old → All (StepFits n) back → AreFronts n coins (coins_changed coins pivots.changes) old new f flips →
    AreEnough n coins pivots back f (point_after n coins old origin) →
    AreFronts n coins (coins_changed coins pivots.changes) (old ++ back) (new ++ back)
    (frame_over n pivots back (point_after n coins old origin).coin f) (joined flips (flips_over n pivots back (point_after n coins old origin).coin f))

-- and so they are with Pauli gates after each, whose letters are multiplied onto the frame
abbrev pub FrontsTakePaulis : Type 0
FrontsTakePaulis =
    (n : ℕ) (coins others : ℕ → Bool) (old new : List Step) (f : Frame) (flips : RunOutput) (l m : Letter) (qs rs : List ℕ) →
    All (λ q. q < n) qs → All (λ q. q < n) rs → AreFronts n coins others old new f flips →
    AreFronts n coins others (with_letters old l qs) (with_letters new m rs)
    (record f { letters = string_product f.letters (string_product (letters_on n l qs) (letters_on n m rs)) }) flips

-- a tableau of the group in one of two runs after fronts that differ by a frame, conjugated, has the group in the other; and both have
-- given as much there
abbrev pub CheckpointsTakeFrames : Type 0
CheckpointsTakeFrames =
    (n : ℕ) (coins : ℕ → Bool) (pivots : RunPivots) (old new back : List Step) (f : Frame) (flips : RunOutput) →
    All (StepFits n) old → All (StepFits n) back → AreFronts n coins (coins_changed coins pivots.changes) old new f flips →
    AreEnough n coins pivots back f (point_after n coins old origin) →
    (t : TableauState) → length t.rows ≡ n → SameGroup n (stabilises t) (member (point_after n coins (old ++ back) origin).trace) →
    SameGroup n (stabilises (propagated_tableau (frame_over n pivots back (point_after n coins old origin).coin f).letters t))
    (member (point_after n (coins_changed coins pivots.changes) (new ++ back) origin).trace)
    × (lengths_of (outputs n (coins_changed coins pivots.changes) (new ++ back) origin) ≡ lengths_of (outputs n coins (old ++ back) origin))

-- Pauli gates instead of others, after the same steps, make such fronts
abbrev pub PauliFronts : Type 0
PauliFronts =
    (n : ℕ) (coins : ℕ → Bool) (front : List Step) (l m : Letter) (qs rs : List ℕ) → All (λ q. q < n) qs → All (λ q. q < n) rs →
    AreFronts n coins coins (with_letters front l qs) (with_letters front m rs)
    (edit_frame n coins front l qs m rs) (unflipped (outputs n coins front origin))

-- so an edit that replaces Pauli gates by others, puts some in or takes some out, flips the run
abbrev pub PauliEditsFlip : Type 0
PauliEditsFlip =
    (n : ℕ) (coins : ℕ → Bool) (strings : ℕ → Option (List Letter)) (front back : List Step) (l m : Letter) (qs rs : List ℕ) →
    All (StepFits n) front → All (StepFits n) back → All (λ q. q < n) qs → All (λ q. q < n) rs →
    AreEnough n coins (same_coins strings) back (edit_frame n coins front l qs m rs) (point_after n coins (with_letters front l qs) origin) →
    IsFlippedRun n coins coins (with_letters front l qs ++ back) (with_letters front m rs ++ back) (edit_flips n coins strings front l qs m rs back)

-- and a run with other coins is the run with some, flipped: the frame begins as the identity
abbrev pub CoinsFlip : Type 0
CoinsFlip =
    (n : ℕ) (coins : ℕ → Bool) (pivots : RunPivots) (xs : List Step) → All (StepFits n) xs → AreEnough n coins pivots xs (identity_frame n 0) origin →
    IsFlippedRun n coins (coins_changed coins pivots.changes) xs xs (flips_over n pivots xs 0 (identity_frame n 0))
