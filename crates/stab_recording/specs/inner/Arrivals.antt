-- Arrivals: what a replay comes to where it stops.
-- Source: this project's own.
use Rattle.std.specs.Prelude.{◌≡◌, ◌≢◌, ℕ, ◌+◌, ◌⊎◌, Bool, List, IfSome, IsSomeAnd, slice_get}
use Rattle.stab_recording.specs.declared.checkpoint.Checkpoint.{Checkpoint}
use Rattle.stab_recording.specs.declared.replay.Replay.{Replay}
use Rattle.stab_recording.specs.declared.replay.Plan.{Plan}
use Rattle.stab_recording.specs.declared.replay.Arrival.{Arrival}
use Rattle.stab_recording.specs.declared.replay.Arrival.TheVariants.{After, Met, Between}
use Rattle.stab_recording.specs.Replays.{IsPlacedAt, MeetsAt}

-- what a replay comes to at the step where it stops: the old checkpoint that may be met next, or the last step, or neither, and which checkpoint
-- may be met then
abbrev pub IsArrival : ℕ → Plan → Replay → List Checkpoint → (records free : List Bool) → ℕ → Arrival → Type 0
IsArrival n p r checkpoints records free next Met = IsSomeAnd (slice_get checkpoints next) (MeetsAt n p r records free)
IsArrival n p r checkpoints records free next After = (r.step ≡ p.total) × IfSome (slice_get checkpoints next) (λ c. MeetsAt n p r records free c → ⊥)
IsArrival n p r checkpoints records free next (Between later) =
    (r.step ≢ p.total)
    × IfSome (slice_get checkpoints next) (λ c. MeetsAt n p r records free c → ⊥)
    × ((later ≡ next) × (IsPlacedAt p checkpoints next r.step → ⊥) ⊎ (later ≡ next + 1) × IsPlacedAt p checkpoints next r.step)
