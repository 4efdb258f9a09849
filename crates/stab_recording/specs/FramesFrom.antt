-- Frames from checkpoints: the frame by which a run differs from a checkpoint, and what it flips.
-- Source: this project's own.
use Rattle.std.specs.Prelude.{◌≡◌, ◌≢◌, ◌⊎◌, ℕ, ◌+◌, ◌-◌, ◌≤◌, [], length, take, drop}
use Rattle.stab_tableau.specs.Tableaus.{TableauState, stabilises}
use Rattle.stab_tableau.specs.Conjugations.{IsConjugated}
use Rattle.stab_run.specs.declared.records.Lengths.{Lengths}
use Rattle.stab_run.specs.Points.{RunOutput, nothing}
use Rattle.stab_run.specs.Cuts.{lengths_of}
use Rattle.stab_frames.specs.Flips.{flipped}
use Rattle.stab_frames.specs.Propagations.{PropagationState, IsPlaced}
use Rattle.stab_recording.specs.declared.checkpoint.Checkpoint.{Checkpoint}

-- what a frame flipped after this much of it, with an outcome for each flag: never a flag
abbrev pub flips_after : Lengths → PropagationState → RunOutput
flips_after l w = record {
  records = drop l.records w.flips.records;
  free = [];
  outcomes = drop l.free w.flips.outcomes;
  detectors = drop l.detectors w.flips.detectors;
  additions = drop l.additions w.flips.additions;
}

-- and since it was an earlier one
abbrev pub flips_since : PropagationState → PropagationState → RunOutput
flips_since old new = flips_after (record (lengths_of old.flips) { free = length old.flips.outcomes }) new

-- this many of the newest records are compared where a frame begins: all after the first ones, which are the same, where both runs have as
-- many records and the same number of the next coin; else those to which steps look back
abbrev pub AreCompared : RunOutput → (base window : ℕ) → Checkpoint → ℕ → Type 0
AreCompared o base window c m =
    ((length o.free ≡ c.lengths.free) × (length o.records ≡ c.lengths.records) × (m + base ≡ length o.records))
    ⊎ ((m ≡ window) × (m ≤ length o.records) × (m ≤ c.lengths.records) × ((length o.free ≢ c.lengths.free) ⊎ (length o.records ≢ c.lengths.records)))

-- the frame by which a state with this output differs from a checkpoint, whose run gave these
pub record IsFrameFrom (t : TableauState) (o old : RunOutput) (base window : ℕ) (c : Checkpoint) (w : PropagationState) : Type 0 where
  pub size : length w.letters ≡ t.qubits
  pub conjugated : IsConjugated t.qubits w.letters (stabilises c.tableau) (stabilises t)
  pub compared : ℕ
  pub are_compared : AreCompared o base window c compared
  pub flips : w.flips
      ≡ record nothing { records = flipped (drop (c.lengths.records - compared) (take c.lengths.records old.records)) (drop (length o.records - compared) o.records) }
  pub coin : w.coin ≡ c.lengths.free
  pub placed : IsPlaced old.free w
