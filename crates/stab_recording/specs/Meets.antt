-- Meets: whether another run comes to a checkpoint of a run's state.
-- Source: this project's own.
use Rattle.std.specs.Prelude.{◌≡◌, ◌⊎◌, ℕ, ◌-◌, Bool, List, length, take, drop}
use Rattle.stab_tableau.specs.Tableaus.{TableauState, stabilises}
use Rattle.stab_tableau.specs.Groups.{SameGroup}
use Rattle.stab_run.specs.Records.{ones}
use Rattle.stab_run.specs.Points.{RunOutput}
use Rattle.stab_recording.specs.declared.checkpoint.Checkpoint.{Checkpoint}

-- a checkpoint of an old run, which has these records and this randomness, is of a state that another run has come to: the same strings stabilise, the newest
-- records are the same, and the next coin has the same number, unless no coin decides after the checkpoint
pub record Meets (n window : ℕ) (t : TableauState) (o : RunOutput) (old free : List Bool) (c : Checkpoint) : Type 0 where
  pub group : SameGroup n (stabilises t) (stabilises c.tableau)
  pub coin : (length o.free ≡ c.lengths.free) ⊎ (ones (drop c.lengths.free free) ≡ 0)
  pub records : drop (length o.records - window) o.records ≡ drop (length (take c.lengths.records old) - window) (take c.lengths.records old)

-- a run that came to this state, and gave this, is as it was at a checkpoint of its own: the state is that of the checkpoint, no coin decided
-- since, and the newest records are the same
pub record ComesAgain (window : ℕ) (t : TableauState) (o : RunOutput) (c : Checkpoint) : Type 0 where
  pub same : c.tableau ≡ t
  pub fixed : ones (drop c.lengths.free o.free) ≡ 0
  pub records : drop (length o.records - window) o.records ≡ drop (length (take c.lengths.records o.records) - window) (take c.lengths.records o.records)
