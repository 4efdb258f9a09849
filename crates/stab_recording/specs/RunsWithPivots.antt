-- Runs with pivots: what a run gives, and pivots of its random outcomes.
-- Source: this project's own.
use Rattle.std.specs.Prelude.{◌≡◌, ℕ, ◌≤◌, Bool, length, min}
use Rattle.stab_items.specs.Items.{Items}
use Rattle.stab_items.specs.Steps.{unroll}
use Rattle.stab_run.specs.Records.{ones}
use Rattle.stab_run.specs.Runs.{run_of}
use Rattle.stab_run.specs.Points.{origin}
use Rattle.stab_frames.specs.Limits.{most_strings}
use Rattle.stab_frames.specs.Pivots.{AreTrue, pivot_at}
use Rattle.stab_recording.specs.declared.with_pivots.RunWithPivots.{RunWithPivots}

-- the shot is the run of the items on n qubits with these coins; the pivots of its first random outcomes are stored, as many as there may
-- be: up to the limit, and more where the run has strings again
pub record IsRunWithPivots (n : ℕ) (coins : ℕ → Bool) (items : Items) (r : RunWithPivots) : Type 0 where
  pub records : r.shot.records.items ≡ (run_of n coins items).records
  pub free : r.shot.free.items ≡ (run_of n coins items).free
  pub detectors : r.shot.detectors.items ≡ (run_of n coins items).detectors
  pub observables : r.shot.observables.items ≡ (run_of n coins items).observables
  pub qubits : r.strings.qubits ≡ n
  pub most : most_strings n ≤ r.strings.most
  pub number : length r.strings.strings ≡ min (ones r.shot.free.items) r.strings.most
  pub are_true : AreTrue n coins (pivot_at r.strings.strings r.shot.free.items) (unroll items) origin
