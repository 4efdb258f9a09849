-- Recorded pivots: what is recorded of a run's outcomes, by which lanes with other coins are propagated over its steps.
-- Source: the reference beside which the shots of C. Gidney, Stim (2021), lie. It differs in that its random outcomes are recorded, so
-- that each shot is exactly the run with its coins.
use Rattle.std.specs.Prelude.{◌≡◌, ℕ, ◌/◌, Bool, length}
use Rattle.stab_run.specs.Records.{ones}
use Rattle.stab_frames.specs.Limits.{bytes_of}
use Rattle.stab_frames.specs.RunPivots.{RunPivots, pivots_of}
use Rattle.stab_frames.specs.Pivots.{pivot_at}
use Rattle.stab_sampler.specs.declared.measure.RecordedPivots.{RecordedPivots}

-- how many strings of n letters are recorded at once at most: those of 4 MiB
abbrev pub most_pivots : ℕ → ℕ
most_pivots n = 4194304 / bytes_of n

-- the recorded pivots, for a lane whose coins differ from the run's where the bits are 1
abbrev pub lane_pivots : RecordedPivots → (ℕ → Bool) → RunPivots
lane_pivots recorded_pivots drawn = pivots_of (pivot_at recorded_pivots.strings.now.strings recorded_pivots.free.now) drawn

-- there is a string for each outcome that is reported as random
abbrev pub HasAll : RecordedPivots → Type 0
HasAll recorded_pivots = length recorded_pivots.strings.now.strings ≡ ones recorded_pivots.free.now
