-- Checkpoints of lanes: what is stored of lanes after a round, and lanes that are again as they were then.
-- Source: this project's own.
use Rattle.std.specs.Prelude.{◌≡◌, ℕ, zero, suc, ◌<◌, ◌≤◌, Bool, List, [], ◌++◌, length, take, Option, IfSome}
use Rattle.stab_gates.specs.declared.letter.Letter.{Letter}
use Rattle.stab_items.specs.Steps.{Step}
use Rattle.stab_items.specs.declared.circuit.repeats.Repeat.{Repeat}
use Rattle.stab_items.specs.Repeats.{IsRepeat}
use Rattle.stab_run.specs.declared.records.Lengths.{Lengths}
use Rattle.stab_run.specs.Records.{looked_up}
use Rattle.stab_run.specs.Cuts.{lengths_of}
use Rattle.stab_recording.specs.inner.Advanced.{after_rounds}
use Rattle.stab_frames.specs.RunPivots.{RunPivots}
use Rattle.stab_sampler.specs.declared.lanes.Lanes.{Lanes}
use Rattle.stab_sampler.specs.declared.checkpoints.LaneCheckpoint.{LaneCheckpoint}
use Rattle.stab_sampler.specs.declared.measure.RecordedPivots.{RecordedPivots}
use Rattle.stab_sampler.specs.Lanes.{lane_bits, lane_letters}
use Rattle.stab_sampler.specs.RecordedPivots.{lane_pivots}
use Rattle.stab_sampler.specs.Differences.{Difference, DiffersAlong, no_difference, ArePropagated}

-- a list this often, one after the other
abbrev pub times : {X : Type 0} → ℕ → List X → List X
times zero xs = []
times (suc k) xs = xs ++ times k xs

-- how much lanes have given
abbrev pub lengths_in : {W : Type 0} → Lanes W → Lengths
lengths_in lanes = record {
  records = length lanes.records.items;
  free = length lanes.free.items;
  detectors = length lanes.detectors.items;
  additions = length lanes.sums.items;
}

-- these are the letters of a lane that went over these steps, and how much it has given
pub record IsStoredAfter (n : ℕ) (pivots : RunPivots) (xs : List Step) (letters : List Letter) (lengths : Lengths) : Type 0 where
  pub before : Difference
  pub advanced : DiffersAlong n pivots xs (no_difference n) before
  pub same : letters ≡ before.letters
  pub long : lengths ≡ lengths_of before.flips

-- a checkpoint of lanes after its rounds of a repeat
abbrev pub IsLaneCheckpoint : {W : Type 0} → (W → ℕ → Bool) → ℕ → RecordedPivots → (ℕ → ℕ → Bool) → List Step → Repeat → LaneCheckpoint W → Type 0
IsLaneCheckpoint at count recorded_pivots coins steps r checkpoint =
    (l : ℕ) → l < count
    → IsStoredAfter recorded_pivots.strings.now.qubits (lane_pivots recorded_pivots (coins l)) (take (after_rounds r checkpoint.done) steps) (lane_letters at l checkpoint.letters.items) checkpoint.lengths

-- the letters of a lane are those at a checkpoint, and its newest m records are flipped as they were then
pub record IsAgain {W : Type 0} (at : W → ℕ → Bool) (l m : ℕ) (checkpoint : LaneCheckpoint W) (lanes : Lanes W) : Type 0 where
  pub letters : lane_letters at l checkpoint.letters.items ≡ lane_letters at l lanes.frames.letters.items
  pub records : (k : ℕ) → k ≤ m → looked_up (take checkpoint.lengths.records (lane_bits at l lanes.records.items)) k ≡ looked_up (lane_bits at l lanes.records.items) k

-- lanes that went over some rounds, and may have a checkpoint after an earlier one, go over these many
abbrev pub GoOn : {W : Type 0} → (W → ℕ → Bool) → ℕ → RecordedPivots → Repeat → Option (LaneCheckpoint W) → (done now : ℕ) → (old new : Lanes W) → Type 0
GoOn at count recorded_pivots r checkpoint done now old new =
    (coins : ℕ → ℕ → Bool) (steps : List Step) → IsRepeat steps r → IfSome checkpoint (IsLaneCheckpoint at count recorded_pivots coins steps r)
    → ArePropagated at count recorded_pivots coins (take (after_rounds r done) steps) old → ArePropagated at count recorded_pivots coins (take (after_rounds r now) steps) new

-- of lanes that went over these rounds a checkpoint is stored, or one that was stored before stays
abbrev pub StaysStored : {W : Type 0} → (W → ℕ → Bool) → ℕ → Lanes W → Repeat → ℕ → (old new : Option (LaneCheckpoint W)) → Type 0
StaysStored at count lanes r done old new =
    (recorded_pivots : RecordedPivots) (coins : ℕ → ℕ → Bool) (steps : List Step) → ArePropagated at count recorded_pivots coins (take (after_rounds r done) steps) lanes
    → IfSome old (IsLaneCheckpoint at count recorded_pivots coins steps r) → IfSome new (IsLaneCheckpoint at count recorded_pivots coins steps r)
