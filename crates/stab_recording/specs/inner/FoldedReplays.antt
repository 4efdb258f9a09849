-- Folded replays: how a replay whose state is that of a checkpoint that it saved, up to a frame if there is one, repeats what it gave since.
-- Source: this project's own.
use Rattle.std.specs.Prelude.{◌≡◌, ◌≢◌, ℕ, ◌+◌, ◌-◌, ◌*◌, ◌<◌, ◌≤◌, ◌^◌, ◌⊎◌, Bool, List, [], ◌∷◌, ◌++◌, Option, None, Some, All, IfSome, length, slice_get, take, drop}
use Rattle.stab_tableau.specs.Tableaus.{TableauState, stabilises}
use Rattle.stab_tableau.specs.Conjugations.{IsConjugated}
use Rattle.stab_items.specs.Steps.{Step, most_steps}
use Rattle.stab_items.specs.declared.circuit.repeats.Repeat.{Repeat}
use Rattle.stab_items.specs.Repeats.{IsRepeat}
use Rattle.stab_run.specs.Records.{ones}
use Rattle.stab_run.specs.Points.{RunOutput, origin, joined, all_coins_of, point_after}
use Rattle.stab_run.specs.ProgramStates.{StepFits, output_of}
use Rattle.stab_run.specs.Cuts.{lengths_of}
use Rattle.stab_run.specs.Ends.{AgreeBack, with_coin}
use Rattle.stab_frames.specs.Flips.{flipped_output}
use Rattle.stab_frames.specs.Pivots.{PivotsState, pivot_at, stored_again}
use Rattle.stab_frames.specs.Propagations.{PropagationState, frame_at, IsPlaced}
use Rattle.stab_frames.specs.RepeatedStepLaws.{DiffersBack}
use Rattle.stab_frames.specs.OtherCoins.{coins_from, PropagatesToOthers}
use Rattle.stab_recording.specs.declared.checkpoint.Checkpoint.{Checkpoint}
use Rattle.stab_recording.specs.declared.recurrence.Recurrence.{Recurrence}
use Rattle.stab_recording.specs.declared.loop_folding.Segment.{Segment}
use Rattle.stab_recording.specs.declared.replay.Plan.{Plan}
use Rattle.stab_recording.specs.declared.replay.Replay.{Replay}
use Rattle.stab_recording.specs.Meets.{ComesAgain}
use Rattle.stab_recording.specs.Parts.{between}
use Rattle.stab_recording.specs.FramesFrom.{IsFrameFrom, flips_since}
use Rattle.stab_recording.specs.Replays.{IsOnWay, step_among_new}
use Rattle.stab_recording.specs.inner.RestFrameStates.{with_state, with_cursor}

-- a replay has the state that it had before

-- a step is in a block some whole rounds after a checkpoint
pub record IsRoundsAfter (block : Repeat) (k : ℕ) (c : Checkpoint) : Type 0 where
  pub first : block.first ≤ c.step
  pub before : c.step < k
  pub rounds : ℕ
  pub whole : k ≡ c.step + rounds * block.length

-- a checkpoint of a state with this many qubits, whose run gave no more than this
pub record IsOfOwn (n : ℕ) (o : RunOutput) (c : Checkpoint) : Type 0 where
  pub qubits : c.tableau.qubits ≡ n
  pub free : c.lengths.free ≤ length o.free
  pub records : c.lengths.records ≤ length o.records

-- a replay has the state of a checkpoint, up to a frame if there is one
abbrev pub StandsAs : Replay → Option PropagationState → Checkpoint → Type 0
StandsAs r None c = ComesAgain r.pivots.window r.tableau (output_of r.outputs) c
StandsAs r (Some w) c = IsFrameFrom r.tableau (output_of r.outputs) (output_of r.outputs) c.lengths.records r.pivots.window c w

-- it does so in a block, some whole rounds after a saved checkpoint with another one after it
pub record AreRoundsFound (block : Repeat) (r : Replay) (e : Recurrence) : Type 0 where
  pub further : e.number + 1 < length r.saved.items
  pub checkpoint : Checkpoint
  pub here : slice_get r.saved.items e.number ≡ Some checkpoint
  pub following : IsRoundsAfter block r.step checkpoint
  pub stands : StandsAs r e.frame checkpoint

-- as far back as its steps look, its run is where it was at a checkpoint, and no coin decided since
pub record IsAsAt (n : ℕ) (coins : ℕ → Bool) (ys : List Step) (r : Replay) (c : Checkpoint) : Type 0 where
  pub fixed : ones (drop c.lengths.free r.outputs.free.items) ≡ 0
  pub agree : AgreeBack n r.pivots.window (with_coin (point_after n coins (take r.step ys) origin).coin (point_after n coins (take c.step ys) origin))
      (point_after n coins (take r.step ys) origin)

-- or it differs from that by a frame, which its cursor can take further
pub record DiffersFrom (n : ℕ) (coins : ℕ → Bool) (ys : List Step) (r : Replay) (w : PropagationState) (c : Checkpoint) : Type 0 where
  pub base : ℕ
  pub differs : DiffersBack n r.pivots.window (frame_at base w) (point_after n coins (take c.step ys) origin) (point_after n coins (take r.step ys) origin)
  pub size : length w.letters ≡ n
  pub coin : w.coin ≡ c.lengths.free
  pub placed : IsPlaced r.outputs.free.items w
  pub left : r.cursor.left ≡ drop r.step ys

abbrev pub IsAlike : ℕ → (ℕ → Bool) → List Step → Replay → Option PropagationState → Checkpoint → Type 0
IsAlike n coins ys r None c = IsAsAt n coins ys r c
IsAlike n coins ys r (Some w) c = DiffersFrom n coins ys r w c

-- how far it may go by what it gave since

-- an end is that of a block at the latest, and not after the last step or the step of the old checkpoint that may be met next
pub record IsEndIn (p : Plan) (checkpoints : List Checkpoint) (next : ℕ) (block : Repeat) (end : ℕ) : Type 0 where
  pub in_block : end ≤ block.first + block.rounds * block.length
  pub in_steps : end ≤ p.total
  pub before : IfSome (slice_get checkpoints next) (λ c. end ≤ step_among_new p c)

-- a replay on its way may go on in a block, up to an end, by what it gave there
pub record MayRecur (n : ℕ) (coins : ℕ → Bool) (begin : ℕ) (p : Plan) (ys : List Step) (checkpoints : List Checkpoint) (old : List Bool) (next : ℕ) (block : Repeat) (end : ℕ) (r : Replay) : Type 0 where
  pub way : IsOnWay n coins begin p ys checkpoints old next r
  pub is_repeat : IsRepeat ys block
  pub is_end : IsEndIn p checkpoints next block end
  pub total : p.total ≡ length ys
  pub few : length ys ≤ most_steps
  pub fits : All (StepFits n) ys

-- it does so from a saved checkpoint at which its run was as it is now; its tableau and its cursor may still be where it was before
pub record IsFolding (n : ℕ) (coins : ℕ → Bool) (begin : ℕ) (p : Plan) (ys : List Step) (checkpoints : List Checkpoint) (old : List Bool) (next : ℕ) (block : Repeat) (end : ℕ) (passed : Bool)
    (r : Replay) (e : Recurrence) : Type 0 where
  pub may : MayRecur n coins begin p ys checkpoints old next block end (with_cursor ys (with_state passed r))
  pub checkpoint : Checkpoint
  pub here : slice_get r.saved.items e.number ≡ Some checkpoint
  pub following : IsRoundsAfter block r.step checkpoint
  pub alike : IsAlike n coins ys r e.frame checkpoint

-- what it repeats

-- what it gave from one saved checkpoint to the next, which is a spacing or more further; there is room for it before an end
pub record IsSegment (spacing end : ℕ) (r : Replay) (g : Segment) : Type 0 where
  pub checkpoint : Checkpoint
  pub later : Checkpoint
  pub here : slice_get r.saved.items g.number ≡ Some checkpoint
  pub there : slice_get r.saved.items (g.number + 1) ≡ Some later
  pub steps : g.steps ≡ later.step - checkpoint.step
  pub from : g.from ≡ checkpoint.lengths
  pub to : g.to ≡ later.lengths
  pub order : checkpoint.step ≤ later.step
  pub far : spacing ≤ g.steps
  pub within : r.step + g.steps ≤ end

-- it gave that again, and saved a checkpoint of the same state
pub record HasRepeated (g : Segment) (old new : Replay) (d : Checkpoint) : Type 0 where
  pub step : new.step ≡ old.step + g.steps
  pub by_frame : new.by_frame ≡ old.by_frame + g.steps
  pub output : output_of new.outputs ≡ joined (output_of old.outputs) (between g.from g.to (output_of old.outputs))
  pub saved : new.saved.items ≡ old.saved.items ++ record { step = new.step; lengths = lengths_of (output_of new.outputs); tableau = d.tableau } ∷ []

-- a frame may go over it again
pub record MayGoOver (n : ℕ) (ys : List Step) (r : Replay) (w : PropagationState) (g : Segment) : Type 0 where
  pub free : g.from.free ≤ length r.outputs.free.items
  pub size : length w.letters ≡ n
  pub strings : r.pivots.strings.qubits ≡ n
  pub qubits : IfSome (slice_get r.saved.items (g.number + 1)) (λ d. d.tableau.qubits ≡ n)
  pub fits : All (StepFits n) r.cursor.left
  pub few : (length r.outputs.free.items - g.from.free) + (w.coin + length r.cursor.left) < 2 ^ 63
  pub coin : w.coin ≡ g.from.free
  pub placed : IsPlaced r.outputs.free.items w
  pub left : r.cursor.left ≡ drop r.step ys
  pub last : g.to.free ≡ w.coin + all_coins_of (take g.steps r.cursor.left)

-- the strings from one number up to another were put after the others again, unless no further ones are stored
abbrev pub HasStringsAgain : (from to : ℕ) → PivotsState → PivotsState → Type 0
HasStringsAgain from to old new = ((length old.strings ≡ old.most) × (new ≡ old)) ⊎ ((length old.strings ≢ old.most) × (new ≡ stored_again from to old))

-- it gave that again, flipped by a frame, took its own coins, each of which counts as a step carried out, and saved a checkpoint that the frame
-- changed
pub record HasPropagated (coins : ℕ → Bool) (g : Segment) (old new : Replay) (w v : PropagationState) (d : Checkpoint) : Type 0 where
  pub step : new.step ≡ old.step + g.steps
  pub counted : new.applied + new.by_frame ≡ (old.applied + old.by_frame) + g.steps
  pub size : length v.letters ≡ length w.letters
  pub placed : IsPlaced old.outputs.free.items v
  pub propagated : PropagatesToOthers (length w.letters) (pivot_at old.pivots.strings.strings old.outputs.free.items) old.outputs.free.items
      (drop g.from.free (take g.to.free old.outputs.outcomes.items)) (coins_from (length old.outputs.free.items - g.from.free) coins) (take g.steps old.cursor.left) w v
  pub left : new.cursor.left ≡ drop g.steps old.cursor.left
  pub output : output_of new.outputs ≡ joined (output_of old.outputs) (flipped_output (between g.from g.to (output_of old.outputs)) (flips_since w v))
  pub preserved : w.number + ones (drop g.from.free (take g.to.free old.outputs.free.items)) ≤ length old.pivots.strings.strings
  pub strings : HasStringsAgain w.number v.number old.pivots.strings new.pivots.strings
  pub state : TableauState
  pub qubits : state.qubits ≡ d.tableau.qubits
  pub conjugated : IsConjugated d.tableau.qubits v.letters (stabilises d.tableau) (stabilises state)
  pub saved : new.saved.items ≡ old.saved.items ++ record { step = new.step; lengths = lengths_of (output_of new.outputs); tableau = state } ∷ []

-- a replay with the lists and the position of a later one
abbrev pub with_folded : Replay → Replay → Replay
with_folded old new = record old {
  outputs = new.outputs;
  pivots = record old.pivots { strings = new.pivots.strings };
  cursor = new.cursor;
  step = new.step;
  applied = new.applied;
  by_frame = new.by_frame;
  saved = new.saved;
}
