-- Passed sites: a frame on its way between an old run and a new one, past sites at which Pauli gates are in the one or the other.
-- Source: this project's own.
use Rattle.std.specs.Prelude.{◌≡◌, ℕ, ◌+◌, ◌≤◌, Bool, false, List, All, length, take, drop, replicate, Option}
use Rattle.stab_gates.specs.declared.letter.Letter.{Letter}
use Rattle.stab_items.specs.Steps.{Step, most_steps}
use Rattle.stab_items.specs.declared.edit.Span.{Span}
use Rattle.stab_run.specs.Points.{RunOutput, origin, joined, point_after, outputs}
use Rattle.stab_run.specs.ProgramStates.{StepFits}
use Rattle.stab_frames.specs.FirstSteps.{AreFronts}
use Rattle.stab_frames.specs.Pivots.{AreTrue}
use Rattle.stab_frames.specs.Propagations.{PropagationState, frame_at, PropagatesOver}
use Rattle.stab_recording.specs.declared.checkpoint.Checkpoint.{Checkpoint}
use Rattle.stab_recording.specs.Checkpoints.{IsCheckpoint}
use Rattle.stab_recording.specs.RestFrames.{AreEnoughBy}
use Rattle.stab_session.specs.PauliSpans.{DifferAtSites}
use Rattle.stab_session.specs.declared.past_sites.PauliChange.{PauliChange}

-- after this many steps an old run and a new one differ by a frame that began after some records, and what both had given differed by
-- some flips; what was recorded of the old run is true of it there with the steps that the new one has left, and so is the randomness
pub record IsFrameBetween (n : ℕ) (coins : ℕ → Bool) (xs ys : List Step) (strings : ℕ → Option (List Letter)) (free : List Bool) (base : ℕ) (front : RunOutput)
    (old new : ℕ) (w : PropagationState) : Type 0 where
  pub old_fit : All (StepFits n) xs
  pub new_fit : All (StepFits n) ys
  pub old_within : old ≤ length xs
  pub new_within : new ≤ length ys
  pub fronts : AreFronts n coins coins (take old xs) (take new ys) (frame_at base w) (joined front w.flips)
  pub coin : w.coin ≡ (point_after n coins (take old xs) origin).coin
  pub are_true : AreTrue n coins strings (drop new ys) (point_after n coins (take old xs) origin)
  pub randomness : (outputs n coins (drop new ys) (point_after n coins (take old xs) origin)).free ≡ drop w.coin free
  pub flagged : ℕ
  pub unflagged : w.flips.free ≡ replicate flagged false

-- such a frame is before a piece of this many steps, which both runs have next; these steps are left of the new one
pub record IsBeforePiece (n : ℕ) (coins : ℕ → Bool) (xs ys : List Step) (strings : ℕ → Option (List Letter)) (free : List Bool) (base : ℕ) (front : RunOutput)
    (old new gap : ℕ) (left : List Step) (w : PropagationState) : Type 0 where
  pub between : IsFrameBetween n coins xs ys strings free base front old new w
  pub left_is : left ≡ drop new ys
  pub shared : take gap (drop old xs) ≡ take gap (drop new ys)
  pub old_within : old + gap ≤ length xs
  pub new_within : new + gap ≤ length ys
  pub few : length ys ≤ most_steps

-- it is before the sites of a change within a span
pub record IsBeforeSites (n : ℕ) (coins : ℕ → Bool) (xs ys : List Step) (strings : ℕ → Option (List Letter)) (free : List Bool) (base : ℕ) (front : RunOutput)
    (s : Span) (change : PauliChange) (left : List Step) (w : PropagationState) : Type 0 where
  pub between : IsFrameBetween n coins xs ys strings free base front s.first s.first w
  pub left_is : left ≡ drop s.first ys
  pub differ : DifferAtSites n xs ys s change

-- such a frame went over exactly this many of some steps, and these are left
pub record HasGoneThrough (pivots : ℕ → Option (List Letter)) (free : List Bool) (count : ℕ) (xs rest : List Step) (before after : ℕ) (w v : PropagationState) : Type 0 where
  pub within : count ≤ length xs
  pub left : rest ≡ drop count xs
  pub counted : after + length rest ≤ before + length xs
  pub propagated : PropagatesOver (length w.letters) pivots (take count xs) w v
  pub enough : AreEnoughBy (length w.letters) pivots free xs count w

-- it went over a piece, and made checkpoints of the old run that are in it ones of the new run, after others
pub record HasPassedPiece (pivots : ℕ → Option (List Letter)) (free : List Bool) (old new gap : ℕ) (ys left rest : List Step) (before after : ℕ) (w v : PropagationState) (checkpoints others all : List Checkpoint) : Type 0 where
  pub left_is : rest ≡ drop gap left
  pub counted : after + length rest ≤ before + length left
  pub coin : v.coin + length rest ≤ w.coin + length left
  pub count : length all ≡ length others + length checkpoints
  pub between : (coins : ℕ → Bool) (xs : List Step) (base : ℕ) (front : RunOutput) → IsBeforePiece (length w.letters) coins xs ys pivots free base front old new gap left w
      → IsFrameBetween (length w.letters) coins xs ys pivots free base front (old + gap) (new + gap) v
  pub are_checkpoints : (coins : ℕ → Bool) (xs : List Step) (base : ℕ) (front : RunOutput) → IsBeforePiece (length w.letters) coins xs ys pivots free base front old new gap left w
      → All (IsCheckpoint (length w.letters) coins xs) checkpoints → All (IsCheckpoint (length w.letters) coins ys) others → All (IsCheckpoint (length w.letters) coins ys) all
