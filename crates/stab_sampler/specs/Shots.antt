-- Shots: what a lane of many shots gives, and what each shot of a list has, is a run of its own.
-- Source: this project's own.
use Rattle.std.specs.Prelude.{◌≡◌, ℕ, ◌<◌, Bool, false, List, length, replicate, slice_index_or}
use Rattle.stab_items.specs.Items.{Items}
use Rattle.stab_recording.specs.declared.whole_run.Shot.{Shot}
use Rattle.stab_run.specs.Points.{RunOutput, with_additions}
use Rattle.stab_run.specs.Runs.{run_of}
use Rattle.stab_frames.specs.Flips.{flipped}
use Rattle.stab_sampler.specs.declared.shots.Shots.{Shots}
use Rattle.stab_sampler.specs.Lanes.{lane_bits}

-- what lane l gives is what the run of the items on n qubits gives with these coins
pub record AreRuns {W : Type 0} (at : W → ℕ → Bool) (l n : ℕ) (coins : ℕ → Bool) (items : Items) (shots : Shots W) : Type 0 where
  pub records : lane_bits at l shots.records.items ≡ (run_of n coins items).records
  pub free : shots.free.items ≡ (run_of n coins items).free
  pub detectors : lane_bits at l shots.detectors.items ≡ (run_of n coins items).detectors
  pub observables : lane_bits at l shots.observables.items ≡ (run_of n coins items).observables

-- what a shot has is what the run of the items on n qubits gives with these coins
pub record IsShot (n : ℕ) (coins : ℕ → Bool) (items : Items) (shot : Shot) : Type 0 where
  pub records : shot.records.items ≡ (run_of n coins items).records
  pub free : shot.free.items ≡ (run_of n coins items).free
  pub detectors : shot.detectors.items ≡ (run_of n coins items).detectors
  pub observables : shot.observables.items ≡ (run_of n coins items).observables

-- shot i of a list is the run with the coins i
abbrev pub AreShots : ℕ → (ℕ → ℕ → Bool) → Items → List Shot → Type 0
AreShots n coins items shots = (i : ℕ) (d : Shot) → i < length shots → IsShot n (coins i) items (slice_index_or shots i d)

-- there is a flip for each bit of a shot that has this many observables
pub record IsAsLong (count : ℕ) (shot : Shot) (flips : RunOutput) : Type 0 where
  pub records : length flips.records ≡ length shot.records.items
  pub detectors : length flips.detectors ≡ length shot.detectors.items
  pub observables : count ≡ length shot.observables.items

-- what lane l gives is what a shot gives, flipped, with this many observables; which outcomes are random is the same
pub record AreFlipped {W : Type 0} (at : W → ℕ → Bool) (l count : ℕ) (shot : Shot) (flips : RunOutput) (shots : Shots W) : Type 0 where
  pub records : lane_bits at l shots.records.items ≡ flipped shot.records.items flips.records
  pub free : shots.free.items ≡ shot.free.items
  pub detectors : lane_bits at l shots.detectors.items ≡ flipped shot.detectors.items flips.detectors
  pub observables : lane_bits at l shots.observables.items ≡ flipped shot.observables.items (with_additions flips.additions (replicate count false))
