-- Propagations: a frame on its way over the steps of a run whose pivots were stored.
-- Source: this project's own.
use Rattle.std.specs.Prelude.{◌≡◌, ℕ, ◌+◌, ◌≤◌, Bool, false, List, ◌++◌, replicate, take, Option}
use Rattle.stab_gates.specs.declared.letter.Letter.{Letter}
use Rattle.stab_gates.specs.declared.letter.Letter.TheVariants.{I}
use Rattle.stab_items.specs.Steps.{Step}
use Rattle.stab_run.specs.Records.{looked_up, ones}
use Rattle.stab_run.specs.Points.{RunOutput, joined, all_coins_of}
use Rattle.stab_frames.specs.Frames.{Frame}
use Rattle.stab_frames.specs.RunPivots.{RunPivots, same_coins}
use Rattle.stab_frames.specs.FrameSteps.{frame_over, flips_over}

-- a frame on its way: its letters, what it has flipped since it began, the number of the next coin, and how many outcomes before that were random
pub record PropagationState : Type 0 where
  pub letters : List Letter
  pub flips : RunOutput
  pub coin : ℕ
  pub number : ℕ

-- the frame, if it began after this many records, none of which it flips
abbrev pub frame_at : ℕ → PropagationState → Frame
frame_at base w = record { letters = w.letters; flips = replicate base false ++ w.flips.records }

-- how many outcomes were random follows from the randomness
abbrev pub IsPlaced : List Bool → PropagationState → Type 0
IsPlaced free w = w.number ≡ ones (take w.coin free)

-- with these pivots a frame was propagated over the steps, wherever it began
pub record PropagatesWith (n : ℕ) (pivots : RunPivots) (xs : List Step) (old new : PropagationState) : Type 0 where
  pub frame : (base : ℕ) → frame_at base new ≡ frame_over n pivots xs old.coin (frame_at base old)
  pub flips : (base : ℕ) → new.flips ≡ joined old.flips (flips_over n pivots xs old.coin (frame_at base old))
  pub coin : new.coin ≡ old.coin + all_coins_of xs

-- so it did with these pivots, if the coins are the same
abbrev pub PropagatesOver : ℕ → (ℕ → Option (List Letter)) → List Step → PropagationState → PropagationState → Type 0
PropagatesOver n strings xs old new = PropagatesWith n (same_coins strings) xs old new

-- a frame is gone for all that looks no further back than rec[-m]: its letters are I, and it flips none of these records
pub record IsGone (n m : ℕ) (f : Frame) : Type 0 where
  pub letters : f.letters ≡ replicate n I
  pub flips : (k : ℕ) → k ≤ m → looked_up f.flips k ≡ false
