-- Differences: how a lane differs from the run with all coins 0, and what steps make of that.
-- Source: this project's own.
use Rattle.std.specs.Prelude.{◌≡◌, ℕ, ◌+◌, ◌<◌, Bool, false, List, [], ◌∷◌, ◌++◌, length, replicate, take}
use Rattle.stab_gates.specs.declared.letter.Letter.{Letter}
use Rattle.stab_gates.specs.declared.letter.Letter.TheVariants.{I}
use Rattle.stab_items.specs.Steps.{Step}
use Rattle.stab_run.specs.Records.{ones}
use Rattle.stab_run.specs.Points.{RunOutput, nothing, joined, all_coins_of}
use Rattle.stab_frames.specs.Frames.{Frame}
use Rattle.stab_frames.specs.RunPivots.{RunPivots, coins_changed}
use Rattle.stab_frames.specs.FirstSteps.{AreFronts}
use Rattle.stab_frames.specs.FrameSteps.{flip_by, letters_for, frame_over, flips_over}
use Rattle.stab_sampler.specs.declared.lanes.Lanes.{Lanes}
use Rattle.stab_sampler.specs.declared.measure.RecordedPivots.{RecordedPivots}
use Rattle.stab_sampler.specs.RecordedPivots.{HasAll, lane_pivots}
use Rattle.stab_sampler.specs.Lanes.{lane_letters, lane_output}
use Rattle.stab_run.specs.Coins.{zero_coins}

-- the letters of a Pauli string, and which bits of what was given so far are flipped
pub record Difference : Type 0 where
  pub letters : List Letter
  pub flips : RunOutput

-- the difference of a lane, if lanes keep flips instead of bits
abbrev pub lane_difference : {W : Type 0} → (W → ℕ → Bool) → ℕ → Lanes W → Difference
lane_difference at l lanes = record { letters = lane_letters at l lanes.frames.letters.items; flips = lane_output at l lanes }

-- what an output has except its outcomes
abbrev pub without_outcomes : RunOutput → RunOutput
without_outcomes o = record o { outcomes = [] }

-- as a frame
abbrev pub frame_of_difference : Difference → Frame
frame_of_difference d = record { letters = d.letters; flips = d.flips.records }

-- the number of the next coin
abbrev pub next_coin : Difference → ℕ
next_coin d = length d.flips.free

-- with these pivots a difference went over steps, as frames do, but that flips of outcomes are stored nowhere
pub record DiffersAlong (n : ℕ) (pivots : RunPivots) (xs : List Step) (old new : Difference) : Type 0 where
  pub frame : frame_of_difference new ≡ frame_over n pivots xs (next_coin old) (frame_of_difference old)
  pub flips : new.flips ≡ joined old.flips (without_outcomes (flips_over n pivots xs (next_coin old) (frame_of_difference old)))
  pub coin : next_coin new ≡ next_coin old + all_coins_of xs

-- it went past the coin of something with which it anticommutes or not, whose outcome is flipped or not
pub record IsMeasuredBy (pivots : RunPivots) (anticommuting flip : Bool) (old new : Difference) : Type 0 where
  pub outcome : flip ≡ flip_by (pivots.strings (next_coin old)) (pivots.changes (next_coin old)) anticommuting
  pub letters : new.letters ≡ letters_for (pivots.strings (next_coin old)) (pivots.changes (next_coin old)) anticommuting old.letters
  pub flips : new.flips ≡ record old.flips { free = old.flips.free ++ false ∷ [] }

-- lanes on as many qubits come to a step of a run of whose random outcomes there is a string each: as many are past as were random so far
pub record MayPropagateLanes {W : Type 0} (recorded_pivots : RecordedPivots) (lanes : Lanes W) : Type 0 where
  pub all : HasAll recorded_pivots
  pub counted : lanes.number ≡ ones (take (length lanes.free.items) recorded_pivots.free.now)
  pub frames : length lanes.frames.letters.items ≡ recorded_pivots.strings.now.qubits

-- all lanes went over steps, each with coins of its own
pub record GoOver {W : Type 0} (at : W → ℕ → Bool) (count : ℕ) (recorded_pivots : RecordedPivots) (coins : ℕ → ℕ → Bool) (xs : List Step) (old new : Lanes W) : Type 0 where
  pub may : MayPropagateLanes recorded_pivots new
  pub coin : length new.free.items ≡ length old.free.items + all_coins_of xs
  pub follow : (l : ℕ) → l < count
      → DiffersAlong recorded_pivots.strings.now.qubits (lane_pivots recorded_pivots (coins l)) xs (lane_difference at l old) (lane_difference at l new)

-- whatever is recorded, and whichever coins they have
abbrev pub GoWithoutCoins : {W : Type 0} → (W → ℕ → Bool) → ℕ → List Step → Lanes W → Lanes W → Type 0
GoWithoutCoins at count xs old new =
    (recorded_pivots : RecordedPivots) (coins : ℕ → ℕ → Bool) → MayPropagateLanes recorded_pivots old → GoOver at count recorded_pivots coins xs old new

-- after these steps from the first on: they give with the coins of a lane what they give with coins 0, flipped, and come to points that
-- differ by its frame; which outcomes are random is flipped nowhere
pub record IsLane (n : ℕ) (coins : ℕ → Bool) (xs : List Step) (d : Difference) : Type 0 where
  pub flips : RunOutput
  pub fronts : AreFronts n zero_coins (coins_changed zero_coins coins) xs xs (frame_of_difference d) flips
  pub preserved : d.flips ≡ without_outcomes flips
  pub still : d.flips.free ≡ replicate (all_coins_of xs) false

-- lanes on n qubits went over these steps, from the first on, each with coins of its own
pub record AreLanes {W : Type 0} (at : W → ℕ → Bool) (count n : ℕ) (coins : ℕ → ℕ → Bool) (xs : List Step) (lanes : Lanes W) : Type 0 where
  pub qubits : length lanes.frames.letters.items ≡ n
  pub coin : length lanes.free.items ≡ all_coins_of xs
  pub each : (l : ℕ) → l < count → IsLane n (coins l) xs (lane_difference at l lanes)

-- the difference before the first step
abbrev pub no_difference : ℕ → Difference
no_difference n = record { letters = replicate n I; flips = nothing }

-- lanes went over these steps, from the first on
pub record ArePropagated {W : Type 0} (at : W → ℕ → Bool) (count : ℕ) (recorded_pivots : RecordedPivots) (coins : ℕ → ℕ → Bool) (xs : List Step) (lanes : Lanes W) : Type 0 where
  pub may : MayPropagateLanes recorded_pivots lanes
  pub follow : (l : ℕ) → l < count
      → DiffersAlong recorded_pivots.strings.now.qubits (lane_pivots recorded_pivots (coins l)) xs (no_difference recorded_pivots.strings.now.qubits) (lane_difference at l lanes)
