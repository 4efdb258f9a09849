-- Replays: how a run that begins, and may end, like an old one is made from it.
-- Source: this project's own.
use Rattle.std.specs.Prelude.{◌≡◌, ℕ, ◌+◌, ◌-◌, ◌/◌, ◌<◌, ◌≤◌, min, nat_le, Bool, if◌then◌else◌, ◌⊎◌, Option, Some, None, List, [], ◌∷◌, ◌++◌, All, IfSome, IsSomeAnd, length, take, drop, slice_get}
use Rattle.stab_items.specs.Steps.{Step}
use Rattle.stab_recording.specs.declared.checkpoint.Checkpoint.{Checkpoint}
use Rattle.stab_recording.specs.declared.replay.Replay.{Replay}
use Rattle.stab_recording.specs.declared.replay.Plan.{Plan}
use Rattle.stab_recording.specs.declared.replay.End.{End}
use Rattle.stab_recording.specs.declared.replay.End.TheVariants.{Last, Joined}
use Rattle.stab_run.specs.Points.{RunOutput, origin, point_after, outputs}
use Rattle.stab_run.specs.Laws.{AgreeAt}
use Rattle.stab_run.specs.ProgramStates.{program_state, output_of}
use Rattle.stab_recording.specs.Spacing.{Near, last_of}
use Rattle.stab_run.specs.Cuts.{lengths_of}
use Rattle.stab_recording.specs.Meets.{Meets}
use Rattle.stab_recording.specs.Checkpoints.{IsRunFromStart, IsCheckpoint, checkpoint_steps}
use Rattle.stab_recording.specs.PivotLists.{KeepsPivotList}
use Rattle.stab_recording.specs.SavedCheckpoints.{moved}

-- where an old checkpoint is among the new steps
abbrev pub step_among_new : Plan → Checkpoint → ℕ
step_among_new p c = moved p.old_end p.new_end c.step

-- how many steps two checkpoints of a replay have between them at least: less than a stride K if K is 4 or more, so that steps can be put in
-- between two neighbours before these are more than a stride from each other
abbrev pub spacing_of : ℕ → ℕ
spacing_of K = K - K / 4

-- where a replay may stop next: at the step of the old checkpoint that may be met next where that is no more than a stride further, and else
-- a spacing further, or after the last step if that comes first
abbrev pub next_stop : Plan → ℕ → Option ℕ → ℕ
next_stop p step None = min (step + spacing_of p.stride) p.total
next_stop p step (Some position) = min (if nat_le position (step + p.stride) then position else step + spacing_of p.stride) p.total

-- what a replay holds is the run of the steps after it, and its cursor has the others left
pub record IsAtStep (n : ℕ) (coins : ℕ → Bool) (ys : List Step) (r : Replay) : Type 0 where
  pub qubits : r.tableau.qubits ≡ n
  pub string : length r.string.letters ≡ n
  pub all : r.cursor.all ≡ ys
  pub left : r.cursor.left ≡ drop r.step ys
  pub within : r.step ≤ length ys
  pub run : IsRunFromStart n coins (take r.step ys) (program_state r.tableau (output_of r.outputs))
  pub scratch : length r.pivots.string.letters ≡ n
  pub has_pivots : KeepsPivotList n coins (take r.step ys) r.pivots.strings r.outputs.free.items r.pivots.window

-- a replay that began at a step has come so far, and saved checkpoints on its way
pub record IsReplay (n : ℕ) (coins : ℕ → Bool) (K begin : ℕ) (ys : List Step) (r : Replay) : Type 0 where
  pub at_step : IsAtStep n coins ys r
  pub checkpoints : All (IsCheckpoint n coins ys) r.saved.items
  pub near : Near K (begin ∷ checkpoint_steps r.saved.items ++ r.step ∷ [])

-- the steps of old checkpoints, the first at or after a step, in order, and within the new steps
abbrev pub Ascending : Plan → ℕ → List Checkpoint → Type 0
Ascending p step [] = step ≤ p.total
Ascending p step (c ∷ more) = (step ≤ step_among_new p c) × Ascending p (step_among_new p c) more

-- an old checkpoint is at this step among the new ones
abbrev pub IsPlacedAt : Plan → List Checkpoint → ℕ → ℕ → Type 0
IsPlacedAt p checkpoints number step = IsSomeAnd (slice_get checkpoints number) (λ c. step_among_new p c ≡ step)

-- a checkpoint of the state that a replay has come to
abbrev pub checkpoint_of : Replay → Checkpoint
checkpoint_of r = record { step = r.step; lengths = lengths_of (output_of r.outputs); tableau = r.tableau }

-- a replay is at the step of an old checkpoint, and meets it
abbrev pub MeetsAt : ℕ → Plan → Replay → (records free : List Bool) → Checkpoint → Type 0
MeetsAt n p r records free c = (step_among_new p c ≡ r.step) × Meets n p.window r.tableau (output_of r.outputs) records free c

-- how a replay ended: after the last step, or at the step of an old checkpoint that it meets
abbrev pub IsEnd : ℕ → Plan → Replay → List Checkpoint → RunOutput → End → Type 0
IsEnd n p r checkpoints o Last = r.step ≡ p.total
IsEnd n p r checkpoints o (Joined j) = (p.next ≤ j) × IsSomeAnd (slice_get checkpoints j) (MeetsAt n p r o.records o.free)

-- no old run with these records agrees with the new one at a checkpoint
abbrev pub Misses : ℕ → (ℕ → Bool) → Plan → List Step → List Bool → Checkpoint → Type 0
Misses n coins p ys records c =
    (xs : List Step) → IsCheckpoint n coins xs c → take c.lengths.records records ≡ (outputs n coins (take c.step xs) origin).records
    → AgreeAt n (point_after n coins (take c.step xs) origin) (point_after n coins (take (step_among_new p c) ys) origin) → ⊥

-- each old checkpoint that may be met, and is before the step where the replay ended, was missed
abbrev pub EndsSoon : ℕ → (ℕ → Bool) → Plan → List Step → List Checkpoint → List Bool → ℕ → Type 0
EndsSoon n coins p ys checkpoints records end =
    (number : ℕ) → p.next ≤ number → IfSome (slice_get checkpoints number) (λ c. step_among_new p c < end → Misses n coins p ys records c)

-- a replay on its way

-- at a step where it stops, with this old checkpoint to be met next: those before it were not met
pub record IsAtStop (n : ℕ) (coins : ℕ → Bool) (begin : ℕ) (p : Plan) (ys : List Step) (checkpoints : List Checkpoint) (old : List Bool) (next : ℕ) (r : Replay) : Type 0 where
  pub replay : IsReplay n coins p.stride begin ys r
  pub counted : (r.applied + r.by_frame) + begin ≡ r.step
  pub order : p.next ≤ next
  pub within : next ≤ length checkpoints
  pub ascending : Ascending p r.step (drop next checkpoints)
  pub missed : (number : ℕ) → p.next ≤ number → number < next → IfSome (slice_get checkpoints number) (Misses n coins p ys old)

-- and about to go on from there, with the last checkpoint saved there
pub record IsOnWay (n : ℕ) (coins : ℕ → Bool) (begin : ℕ) (p : Plan) (ys : List Step) (checkpoints : List Checkpoint) (old : List Bool) (next : ℕ) (r : Replay) : Type 0 where
  pub stop : IsAtStop n coins begin p ys checkpoints old next r
  pub last : last_of begin (checkpoint_steps r.saved.items) ≡ r.step

-- where a replay that went on from a step stops: a spacing further or more, or after the last step, or at the step of the old checkpoint
-- that may be met next
abbrev pub StopsAt : Plan → List Checkpoint → ℕ → ℕ → ℕ → Type 0
StopsAt p checkpoints next from step = (from + spacing_of p.stride ≤ step) ⊎ ((step ≡ p.total) ⊎ IsPlacedAt p checkpoints next step)
