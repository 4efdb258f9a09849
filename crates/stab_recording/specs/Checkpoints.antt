-- Checkpoints: checkpoints of the state on the way through a run, with how long its lists were there.
-- Source: this project's own.
use Rattle.std.specs.Prelude.{◌≡◌, ℕ, ◌≤◌, Bool, List, length, take, map}
use Rattle.stab_tableau.specs.Traces.{member}
use Rattle.stab_tableau.specs.Groups.{SameGroup}
use Rattle.stab_tableau.specs.Tableaus.{stabilises}
use Rattle.stab_items.specs.Steps.{Step}
use Rattle.stab_recording.specs.declared.checkpoint.Checkpoint.{Checkpoint}
use Rattle.stab_run.specs.Points.{origin, point_after, outputs}
use Rattle.stab_run.specs.ProgramStates.{ProgramState}
use Rattle.stab_run.specs.Cuts.{lengths_of}

-- what the program holds is what these steps give from the first on, all qubits zero before it
pub record IsRunFromStart (n : ℕ) (coins : ℕ → Bool) (xs : List Step) (s : ProgramState) : Type 0 where
  pub group : SameGroup n s.stabilised (member (point_after n coins xs origin).trace)
  pub output : s.output ≡ outputs n coins xs origin

-- a checkpoint of the state before one of these steps, or after the last
pub record IsCheckpoint (n : ℕ) (coins : ℕ → Bool) (xs : List Step) (c : Checkpoint) : Type 0 where
  pub within : c.step ≤ length xs
  pub qubits : c.tableau.qubits ≡ n
  pub group : SameGroup n (stabilises c.tableau) (member (point_after n coins (take c.step xs) origin).trace)
  pub lengths : c.lengths ≡ lengths_of (outputs n coins (take c.step xs) origin)

-- the steps that checkpoints are stored before
abbrev pub checkpoint_steps : List Checkpoint → List ℕ
checkpoint_steps = map (λ c. c.step)
