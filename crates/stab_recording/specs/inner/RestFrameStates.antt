-- Replays beside an older run: where they differ from it, and what they hold while checkpoints go ahead of the tableau.
-- Source: this project's own.
use Rattle.std.specs.Prelude.{◌≡◌, ◌≢◌, ◌⊎◌, ℕ, ◌≤◌, Bool, true, false, List, [], ◌∷◌, length, take, drop}
use Rattle.stab_items.specs.Steps.{Step}
use Rattle.stab_tableau.specs.Tableaus.{TableauState}
use Rattle.stab_run.specs.Points.{RunOutput}
use Rattle.stab_recording.specs.declared.checkpoint.Checkpoint.{Checkpoint}
use Rattle.stab_recording.specs.declared.replay.Plan.{Plan}
use Rattle.stab_recording.specs.declared.replay.Replay.{Replay}
use Rattle.stab_recording.specs.Replays.{IsAtStep, step_among_new}
use Rattle.stab_recording.specs.OldRuns.{IsOldRun}

-- a replay of the new steps and an older run have the same coins
pub record IsBeside (n : ℕ) (coins : ℕ → Bool) (p : Plan) (ys : List Step) (checkpoints : List Checkpoint) (o : RunOutput) (r : Replay) : Type 0 where
  pub old : IsOldRun n coins p ys checkpoints o
  pub at_step : IsAtStep n coins ys r

-- a replay is at the step of an old checkpoint after what was changed, and has another number of the next coin there, or other records
pub record HasOtherCoins (p : Plan) (r : Replay) (o : RunOutput) (c : Checkpoint) : Type 0 where
  pub following : p.old_end ≤ c.step
  pub position : step_among_new p c ≡ r.step
  pub differs : (c.lengths.free ≢ length r.outputs.free.items) ⊎ (take c.lengths.records o.records ≢ r.outputs.records.items)

-- the state of the last of some checkpoints, or another one if there are none
abbrev pub last_state : TableauState → List Checkpoint → TableauState
last_state t [] = t
last_state t (c ∷ more) = last_state c.tableau more

-- the state that a replay has come to: if it passed a checkpoint, that of the last one saved, and else what its tableau holds
abbrev pub state_of : Bool → Replay → TableauState
state_of false r = r.tableau
state_of true r = last_state r.tableau r.saved.items

-- a replay with its tableau in the state that it has come to
abbrev pub with_state : Bool → Replay → Replay
with_state passed r = record r { tableau = state_of passed r }

-- a replay with its cursor at the step that it has come to
abbrev pub with_cursor : List Step → Replay → Replay
with_cursor ys r = record r { cursor = record { all = ys; left = drop r.step ys } }
