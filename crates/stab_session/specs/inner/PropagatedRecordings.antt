-- Propagated recordings: what a frame made of a recording, and what is stored once that is put in place.
-- Source: this project's own.
use Rattle.std.specs.Prelude.{◌≡◌, ℕ, ◌+◌, ◌-◌, ◌≤◌, Bool, false, List, [], Option, IfSome, map, MatchOption, All, length, take, drop, replicate, slice_get}
use Rattle.stab_gates.specs.declared.letter.Letter.TheVariants.{I}
use Rattle.stab_tableau.specs.Tableaus.{TableauState, stabilises}
use Rattle.stab_tableau.specs.Conjugations.{IsConjugated}
use Rattle.stab_items.specs.Steps.{Step}
use Rattle.stab_items.specs.declared.edit.Span.{Span}
use Rattle.stab_recording.specs.declared.checkpoint.Checkpoint.{Checkpoint}
use Rattle.stab_recording.specs.declared.checkpoint.Meeting.{Meeting}
use Rattle.stab_recording.specs.Checkpoints.{IsCheckpoint}
use Rattle.stab_recording.specs.SavedCheckpoints.{moved, moved_checkpoint, all_saved}
use Rattle.stab_run.specs.Points.{Point, RunOutput, nothing, joined, with_additions, outputs}
use Rattle.stab_run.specs.Records.{ones}
use Rattle.stab_run.specs.ProgramStates.{output_of}
use Rattle.stab_run.specs.Cuts.{lengths_of, front_of, rest_of}
use Rattle.stab_run.specs.declared.records.Lengths.{Lengths}
use Rattle.stab_frames.specs.Flips.{flipped_output}
use Rattle.stab_frames.specs.Pivots.{pivot_at}
use Rattle.stab_frames.specs.Propagations.{PropagationState, IsPlaced}
use Rattle.stab_session.specs.LongerLists.{longer}
use Rattle.stab_recording.specs.RestFrames.{IsRestFrame, with_states}
use Rattle.stab_session.specs.PassedSites.{IsFrameBetween, IsBeforeSites}
use Rattle.stab_session.specs.declared.past_sites.PauliChange.{PauliChange}
use Rattle.stab_session.specs.declared.recording.Recording.{Recording}
use Rattle.stab_session.specs.declared.recording.Followed.{Followed}
use Rattle.stab_session.specs.declared.conjugating.PastSites.{PastSites}
use Rattle.stab_session.specs.declared.conjugating.Conjugating.{Conjugating}
use Rattle.stab_session.specs.inner.Prepared.{IsCheckpointCount}
use Rattle.stab_session.specs.inner.OldRests.{HasRoomFor, checkpoints_moved}
use Rattle.stab_session.specs.Recordings.{IsRecording}
use Rattle.stab_session.specs.FollowedEdits.{IsWay}

-- no list has anything
abbrev pub no_lengths : Lengths
no_lengths = record { records = 0; free = 0; detectors = 0; additions = 0 }

-- of some checkpoints this many are not after the first step of a span, and those up to another count may be within it
pub record AreCounted (s : Span) (checkpoints : List Checkpoint) (before inside : ℕ) : Type 0 where
  pub first : IsCheckpointCount (s.first + 1) checkpoints before
  pub order : before ≤ inside
  pub within : inside ≤ length checkpoints

-- a step is not after a span, and the next checkpoint, which is, once it has moved, or the last step, is at most K steps from it
abbrev pub StaysNear : ℕ → Span → (total step : ℕ) → Option Checkpoint → Type 0
StaysNear K s total step next =
    (step ≤ s.new_end) × MatchOption next (total ≤ step + K) (λ c. (s.old_end ≤ c.step) × (moved s.old_end s.new_end c.step ≤ step + K))

-- the checkpoints of a run move with the end of a span, and its lists stay as long as they are
abbrev pub span_meeting : Span → Meeting
span_meeting s = record { old_step = s.old_end; new_step = s.new_end; old_lengths = no_lengths; new_lengths = no_lengths }

-- a frame that began where the lists of a run were this long went past the sites of a change within a span; of the checkpoints that are after
-- this many, those up to another count were made checkpoints of the new run
pub record IsPastSites (ys : List Step) (s : Span) (before inside : ℕ) (change : PauliChange) (r : Recording) (from : Lengths) (w : PropagationState) (checkpoints : List Checkpoint) : Type 0 where
  pub from_is : IfSome (slice_get r.checkpoints.items (before - 1)) (λ c. (n : ℕ) (coins : ℕ → Bool) (a : Point)
      → from ≡ longer c.lengths (lengths_of (outputs n coins (take (s.first - c.step) (drop c.step ys)) a)))
  pub start : PropagationState
  pub begins : start ≡ record { letters = replicate r.tableau.qubits I; flips = nothing; coin = from.free; number = ones (take from.free r.outputs.free.items) }
  pub letters : length w.letters ≡ r.tableau.qubits
  pub placed : IsPlaced r.outputs.free.items w
  pub few : w.coin ≤ from.free + length (drop s.first ys)
  pub count : length checkpoints + before ≡ inside
  pub between : (coins : ℕ → Bool) (xs : List Step) (base : ℕ) (front : RunOutput)
      → IsBeforeSites r.tableau.qubits coins xs ys (pivot_at r.strings.strings r.outputs.free.items) r.outputs.free.items base front s change (drop s.first ys) start
      → IsFrameBetween r.tableau.qubits coins xs ys (pivot_at r.strings.strings r.outputs.free.items) r.outputs.free.items base front s.old_end s.new_end w
  pub are_checkpoints : (coins : ℕ → Bool) (xs : List Step) (base : ℕ) (front : RunOutput)
      → IsBeforeSites r.tableau.qubits coins xs ys (pivot_at r.strings.strings r.outputs.free.items) r.outputs.free.items base front s change (drop s.first ys) start
      → All (IsCheckpoint r.tableau.qubits coins xs) (take (inside - before) (drop before r.checkpoints.items)) → All (IsCheckpoint r.tableau.qubits coins ys) checkpoints

-- the checkpoints after a span, those that a frame conjugated with their new states, and moved with it
abbrev pub checkpoints_conjugated : Span → List TableauState → List Checkpoint → List Checkpoint
checkpoints_conjugated s conjugated checkpoints = map (moved_checkpoint (span_meeting s)) (with_states conjugated checkpoints)

-- it was propagated on over the steps after the span, past the checkpoints that are there
pub record IsConjugating (ys : List Step) (s : Span) (inside : ℕ) (p : PastSites) (r : Recording) (t : Conjugating) : Type 0 where
  pub from : t.from ≡ p.from
  pub passed : t.passed.items ≡ p.checkpoints.items
  pub number : t.rest.number ≡ inside
  pub meeting : t.rest.meeting ≡ span_meeting s
  pub advanced : IsRestFrame r.tableau.qubits r.strings.strings r.outputs.free.items r.window (drop s.new_end ys) s.old_end (drop inside r.checkpoints.items) t.rest.conjugated.items p.propagation t.rest.propagation
  pub room : HasRoomFor r.tableau.qubits t.rest r.checkpoints.items

-- what it made was put in place
pub record IsTakenOver (old : Recording) (before K : ℕ) (t : Conjugating) (new : Recording) : Type 0 where
  pub qubits : new.tableau.qubits ≡ old.tableau.qubits
  pub conjugated : IsConjugated old.tableau.qubits t.rest.propagation.letters (stabilises old.tableau) (stabilises new.tableau)
  pub output : output_of new.outputs
      ≡ joined (front_of t.from (output_of old.outputs)) (flipped_output (rest_of t.from (output_of old.outputs)) (record t.rest.propagation.flips { free = [] }))
  pub observables : new.observables.items ≡ with_additions new.outputs.additions.items (replicate (length old.observables.items) false)
  pub strings : new.strings ≡ old.strings
  pub window : new.window ≡ old.window
  pub checkpoints : new.checkpoints.items
      ≡ all_saved K (checkpoints_moved t.rest old.checkpoints.items) (all_saved K t.passed.items (take before old.checkpoints.items))

-- the run was conjugated: it is that of the new steps, with this many observables, and this many steps were followed for it
pub record HasConjugated (n : ℕ) (coins : ℕ → Bool) (K : ℕ) (ys : List Step) (observables : ℕ) (s : Span) (old : Recording) (f : Followed) (new : Recording) : Type 0 where
  pub preserved : IsRecording n coins K ys observables new
  pub way : IsWay n coins K ys s old (f.applied + f.by_frame)
