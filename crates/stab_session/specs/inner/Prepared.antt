-- Prepared runs: what a replay of an edited circuit begins with, what it leaves, and what is stored once that is put in place.
-- Source: this project's own.
use Rattle.std.specs.Prelude.{◌≡◌, ℕ, ◌<◌, ◌≤◌, false, List, [], All, IfSome, length, take, drop, reverse, replicate, slice_get}
use Rattle.stab_gates.specs.declared.letter.Letter.TheVariants.{I}
use Rattle.stab_tableau.specs.Tableaus.{TableauState, stabilises}
use Rattle.stab_tableau.specs.Conjugations.{IsConjugated}
use Rattle.stab_items.specs.Steps.{Step, HasDistinctQubits}
use Rattle.stab_recording.specs.declared.checkpoint.Checkpoint.{Checkpoint}
use Rattle.stab_recording.specs.declared.checkpoint.Meeting.{Meeting}
use Rattle.stab_recording.specs.declared.replay.Replay.{Replay}
use Rattle.stab_recording.specs.declared.replay.End.{End}
use Rattle.stab_recording.specs.declared.replay.End.TheVariants.{Last, Joined}
use Rattle.stab_session.specs.declared.recording.Recording.{Recording}
use Rattle.stab_session.specs.declared.recording.Prepared.{Prepared}
use Rattle.stab_session.specs.declared.recording.Rest.{Rest}
use Rattle.stab_session.specs.declared.recording.Rest.TheVariants.{Nothing, Old}
use Rattle.stab_run.specs.Records.{ones}
use Rattle.stab_run.specs.Points.{RunOutput, joined, with_additions}
use Rattle.stab_run.specs.ProgramStates.{output_of}
use Rattle.stab_run.specs.Cuts.{lengths_of, front_of, rest_of}
use Rattle.stab_frames.specs.Pivots.{PivotsState, front_stored, cut_to}
use Rattle.stab_frames.specs.Limits.{most_strings}
use Rattle.stab_recording.specs.PivotLists.{IsSpliced}
use Rattle.stab_recording.specs.SavedCheckpoints.{all_saved}
use Rattle.stab_session.specs.declared.rest.OldRest.{OldRest}
use Rattle.stab_session.specs.inner.OldRests.{HasRoomFor, checkpoints_moved}

-- this many of the first checkpoints are before a step
pub record IsCheckpointCount (step : ℕ) (checkpoints : List Checkpoint) (m : ℕ) : Type 0 where
  pub within : m ≤ length checkpoints
  pub before : All (λ c. c.step < step) (take m checkpoints)
  pub following : IfSome (slice_get checkpoints m) (λ c. step ≤ c.step)

-- a replay of some steps begins at a checkpoint that is stored: it has done nothing yet
pub record Begins (ys : List Step) (preserved : Recording) (c : Checkpoint) (r : Replay) : Type 0 where
  pub tableau : r.tableau ≡ c.tableau
  pub string : length r.string.letters ≡ preserved.tableau.qubits
  pub output : output_of r.outputs ≡ front_of c.lengths (output_of preserved.outputs)
  pub scratch : length r.pivots.string.letters ≡ preserved.tableau.qubits
  pub strings : r.pivots.strings ≡ front_stored (ones r.outputs.free.items) preserved.strings
  pub window : r.pivots.window ≡ preserved.window
  pub all : r.cursor.all ≡ ys
  pub left : r.cursor.left ≡ drop c.step ys
  pub distinct : All HasDistinctQubits ys
  pub step : r.step ≡ c.step
  pub applied : r.applied ≡ 0
  pub by_frame : r.by_frame ≡ 0
  pub saved : r.saved.items ≡ []

-- there is a checkpoint where a replay ended
abbrev pub HasCheckpoint : List Checkpoint → End → Type 0
HasCheckpoint checkpoints Last = Unit {0}
HasCheckpoint checkpoints (Joined number) = number < length checkpoints

-- the state after the last step, and the old checkpoints that are still checkpoints of the run, conjugated and moved
abbrev pub IsTableauAfter : Rest → (old new : TableauState) → Type 0
IsTableauAfter (Nothing tableau) old new = new ≡ tableau
IsTableauAfter (Old rest) old new = (new.qubits ≡ old.qubits) × IsConjugated old.qubits rest.propagation.letters (stabilises old) (stabilises new)

abbrev pub checkpoints_after : Rest → List Checkpoint → List Checkpoint
checkpoints_after (Nothing tableau) checkpoints = []
checkpoints_after (Old rest) checkpoints = checkpoints_moved rest checkpoints

-- there is room for them
abbrev pub HasRoom : ℕ → Rest → List Checkpoint → Type 0
HasRoom n (Nothing tableau) checkpoints = Unit {0}
HasRoom n (Old rest) checkpoints = HasRoomFor n rest checkpoints

-- the meeting of a replay that is before a step, with this output, and an old checkpoint
abbrev pub meeting_of : RunOutput → ℕ → Checkpoint → Meeting
meeting_of o step c = record { old_step = c.step; new_step = step; old_lengths = c.lengths; new_lengths = lengths_of o }

-- from an old checkpoint with a number on the recording comes after a replay: its checkpoints, what it gave, and its strings
pub record IsOldRest (preserved : Recording) (o : RunOutput) (has_pivots : PivotsState) (step number : ℕ) (new : RunOutput) (new_strings : PivotsState) (rest : Rest) (c : Checkpoint) : Type 0 where
  pub old : OldRest
  pub is : rest ≡ Old old
  pub from : old.number ≡ number
  pub meeting : old.meeting ≡ meeting_of o step c
  pub states : old.conjugated.items ≡ []
  pub letters : old.propagation.letters ≡ replicate preserved.tableau.qubits I
  pub output : new ≡ joined o (rest_of c.lengths (output_of preserved.outputs))
  pub strings : IsSpliced has_pivots preserved.strings (ones (take c.lengths.free preserved.outputs.free.items)) (ones new.free) new_strings

-- what comes after a replay that ended before a step with this tableau and output, and what the output is then
abbrev pub IsRest : Recording → TableauState → RunOutput → PivotsState → ℕ → End → RunOutput → PivotsState → Rest → Type 0
IsRest preserved t o strings step Last new new_strings rest = (rest ≡ Nothing t) × (new ≡ o) × (new_strings ≡ strings)
IsRest preserved t o strings step (Joined number) new new_strings rest =
    IfSome (slice_get preserved.checkpoints.items number) (IsOldRest preserved o strings step number new new_strings rest)

-- what a replay leaves is prepared: what comes after it, strings up to the limit, this many observables, summed, and its checkpoints, the last first
pub record IsPrepared (preserved : Recording) (r : Replay) (count : ℕ) (end : End) (p : Prepared) : Type 0 where
  pub all : PivotsState
  pub rest : IsRest preserved r.tableau (output_of r.outputs) r.pivots.strings r.step end (output_of p.outputs) all p.rest
  pub strings : p.strings ≡ cut_to (most_strings all.qubits) all
  pub window : p.window ≡ r.pivots.window
  pub observables : p.observables.items ≡ with_additions p.outputs.additions.items (replicate count false)
  pub saved : reverse p.saved.items ≡ r.saved.items

-- what was prepared is put in place, after this many of the old checkpoints
pub record IsCommitted (old : Recording) (p : Prepared) (before K : ℕ) (new : Recording) : Type 0 where
  pub tableau : IsTableauAfter p.rest old.tableau new.tableau
  pub output : output_of new.outputs ≡ output_of p.outputs
  pub observables : new.observables.items ≡ p.observables.items
  pub strings : new.strings ≡ p.strings
  pub window : new.window ≡ p.window
  pub checkpoints : new.checkpoints.items
      ≡ all_saved K (checkpoints_after p.rest old.checkpoints.items) (all_saved K (reverse p.saved.items) (take before old.checkpoints.items))
