-- Old rests: the checkpoints of a recording from one on, which move to another step, the first of them with other states.
-- Source: this project's own.
use Rattle.std.specs.Prelude.{◌≡◌, ℕ, ◌+◌, ◌≤◌, List, [], Option, None, Some, length, take, drop, map, vec_capacity}
use Rattle.stab_tableau.specs.Tableaus.{stabilises}
use Rattle.stab_tableau.specs.Conjugations.{IsConjugated}
use Rattle.stab_items.specs.declared.edit.Span.{Span}
use Rattle.stab_run.specs.ProgramStates.{output_of}
use Rattle.stab_recording.specs.declared.checkpoint.Checkpoint.{Checkpoint}
use Rattle.stab_recording.specs.SavedCheckpoints.{moved, moved_checkpoint, all_saved}
use Rattle.stab_recording.specs.RestFrames.{with_states}
use Rattle.stab_session.specs.declared.recording.Recording.{Recording}
use Rattle.stab_session.specs.declared.rest.OldRest.{OldRest}

-- where the first checkpoint is that was not conjugated, or after the last step
abbrev pub conjugated_end : Span → (total : ℕ) → Option Checkpoint → ℕ
conjugated_end s total None = total
conjugated_end s total (Some c) = moved s.old_end s.new_end c.step

-- these checkpoints, where they move to
abbrev pub checkpoints_moved : OldRest → List Checkpoint → List Checkpoint
checkpoints_moved rest checkpoints = map (moved_checkpoint rest.meeting) (with_states rest.conjugated.items (drop rest.number checkpoints))

-- there is room for them, and as many as were conjugated; the frame is on this many qubits
pub record HasRoomFor (n : ℕ) (rest : OldRest) (checkpoints : List Checkpoint) : Type 0 where
  pub nothing : rest.room.items ≡ []
  pub room : length checkpoints ≤ vec_capacity rest.room + rest.number
  pub few : rest.number + length rest.conjugated.items ≤ length checkpoints
  pub letters : length rest.propagation.letters ≡ n

-- they were put in place after checkpoints that come after this many, and the state after the last step was conjugated
pub record IsRestPut (old : Recording) (rest : OldRest) (before K : ℕ) (saved : List Checkpoint) (new : Recording) : Type 0 where
  pub qubits : new.tableau.qubits ≡ old.tableau.qubits
  pub conjugated : IsConjugated old.tableau.qubits rest.propagation.letters (stabilises old.tableau) (stabilises new.tableau)
  pub output : output_of new.outputs ≡ output_of old.outputs
  pub observables : new.observables.items ≡ old.observables.items
  pub strings : new.strings ≡ old.strings
  pub window : new.window ≡ old.window
  pub checkpoints : new.checkpoints.items ≡ all_saved K (checkpoints_moved rest old.checkpoints.items) (all_saved K saved (take before old.checkpoints.items))
