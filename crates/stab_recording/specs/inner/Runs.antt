-- Runs: replays of all steps from the first on, with no older run to meet.
-- Source: this project's own.
use Rattle.std.specs.Prelude.{◌≡◌, ℕ, Bool, List, [], None, All, length}
use Rattle.stab_items.specs.Items.{Items}
use Rattle.stab_items.specs.Steps.{Step, unroll, check_within}
use Rattle.stab_items.specs.declared.circuit.repeats.Repeat.{Repeat}
use Rattle.stab_items.specs.Repeats.{AreRepeats, IsRepeat}
use Rattle.stab_run.specs.ProgramStates.{StepFits}
use Rattle.stab_recording.specs.declared.replay.Plan.{Plan}
use Rattle.stab_recording.specs.declared.replay.Replay.{Replay}
use Rattle.stab_recording.specs.Replays.{IsAtStop}
use Rattle.stab_recording.specs.FollowedRuns.{HasSteps}
use Rattle.stab_recording.specs.inner.Progress.{AreRunnable}

-- a run of this many steps: checkpoints may lie as far from each other as there are steps
abbrev pub plan_of_run : ℕ → Plan
plan_of_run total = record { total = total; stride = total; old_end = 0; new_end = 0; next = 0; window = 0 }

-- a run of these steps has come so far, and its checkpoints are of itself
abbrev pub IsOwnRun : ℕ → (ℕ → Bool) → List Step → Replay → Type 0
IsOwnRun n coins ys r = IsAtStop n coins 0 (plan_of_run (length ys)) ys [] [] 0 r

-- it may be run to the end of a circuit that nothing refuses, whose steps these are, with these repeats
pub record MayRunAll (coins : ℕ → Bool) (circuit : Items) (repeats : List Repeat) (r : Replay) : Type 0 where
  pub steps : unroll circuit ≡ r.cursor.all
  pub checked : check_within r.tableau.qubits circuit ≡ None
  pub fits : All (StepFits r.tableau.qubits) r.cursor.all
  pub repeated : AreRepeats 0 r.cursor.all repeats
  pub own : IsOwnRun r.tableau.qubits coins r.cursor.all r

-- it may be run on in a block of such a circuit
pub record MayRunBlock (coins : ℕ → Bool) (circuit : Items) (block : Repeat) (r : Replay) : Type 0 where
  pub has_steps : HasSteps circuit r.cursor.all
  pub runnable : AreRunnable r.tableau.qubits r.cursor.all
  pub is_repeat : IsRepeat r.cursor.all block
  pub own : IsOwnRun r.tableau.qubits coins r.cursor.all r
