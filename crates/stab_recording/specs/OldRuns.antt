-- Old runs: what a replay follows, and points from which two runs go on alike.
-- Source: this project's own.
use Rattle.std.specs.Prelude.{◌≡◌, ℕ, ◌≤◌, Bool, List, All, length, take, drop}
use Rattle.stab_tableau.specs.Traces.{member}
use Rattle.stab_tableau.specs.Groups.{SameGroup}
use Rattle.stab_items.specs.Steps.{Step}
use Rattle.stab_recording.specs.declared.checkpoint.Checkpoint.{Checkpoint}
use Rattle.stab_recording.specs.declared.replay.Plan.{Plan}
use Rattle.stab_run.specs.Points.{Point, RunOutput, origin, point_after, outputs}
use Rattle.stab_recording.specs.Checkpoints.{IsCheckpoint}

-- an older run, of which these are checkpoints and output, and whose steps after what was changed are the new ones
pub record IsOldRun (n : ℕ) (coins : ℕ → Bool) (p : Plan) (ys : List Step) (checkpoints : List Checkpoint) (o : RunOutput) : Type 0 where
  pub steps : List Step
  pub are_checkpoints : All (IsCheckpoint n coins steps) checkpoints
  pub output : o ≡ outputs n coins steps origin
  pub old_within : p.old_end ≤ length steps
  pub new_within : p.new_end ≤ length ys
  pub following : drop p.old_end steps ≡ drop p.new_end ys

-- two points from which the first of some steps, however many, give the same and come to the same group
abbrev pub HaveSameFuture : ℕ → (ℕ → Bool) → List Step → Point → Point → Type 0
HaveSameFuture n coins back a b =
    (m : ℕ) → (outputs n coins (take m back) a ≡ outputs n coins (take m back) b)
    × SameGroup n (member (point_after n coins (take m back) a).trace) (member (point_after n coins (take m back) b).trace)
