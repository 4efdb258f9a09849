-- What a replay needs that follows an old run: its steps, its plan, and what is stored of that run.
-- Source: this project's own.
use Rattle.std.specs.Prelude.{◌≡◌, ℕ, ◌+◌, ◌≤◌, Bool, List, [], None, All, length, drop}
use Rattle.stab_items.specs.Items.{Items}
use Rattle.stab_items.specs.Steps.{Step, most_steps, unroll, check_of}
use Rattle.stab_run.specs.Records.{ones}
use Rattle.stab_run.specs.ProgramStates.{StepFits, output_of}
use Rattle.stab_recording.specs.declared.old_run.OldRun.{OldRun}
use Rattle.stab_recording.specs.declared.replay.Plan.{Plan}
use Rattle.stab_recording.specs.declared.replay.Replay.{Replay}
use Rattle.stab_recording.specs.declared.replay.End.{End}
use Rattle.stab_recording.specs.Replays.{Ascending, EndsSoon, IsEnd, IsReplay}
use Rattle.stab_recording.specs.OldRuns.{IsOldRun}

-- a plan for these steps, which are on n qubits
pub record IsPlanned (n : ℕ) (p : Plan) (ys : List Step) : Type 0 where
  pub fits : All (StepFits n) ys
  pub total : p.total ≡ length ys
  pub few : p.total ≤ most_steps
  pub stride : 1 ≤ p.stride

-- a circuit that nothing refuses has these steps
pub record HasSteps (circuit : Items) (ys : List Step) : Type 0 where
  pub steps : unroll circuit ≡ ys
  pub checked : check_of circuit ≡ None

-- a replay that has done nothing yet
pub record IsNew (coins : ℕ → Bool) (K : ℕ) (r : Replay) : Type 0 where
  pub replay : IsReplay r.tableau.qubits coins K r.step r.cursor.all r
  pub nothing_saved : r.saved.items ≡ []
  pub nothing_applied : r.applied ≡ 0
  pub nothing_propagated : r.by_frame ≡ 0

-- an old run that a new replay follows: it may meet the checkpoints from the next one on
pub record IsFollowed (coins : ℕ → Bool) (p : Plan) (old : OldRun) (r : Replay) : Type 0 where
  pub run : IsOldRun r.tableau.qubits coins p r.cursor.all old.checkpoints.now (output_of old.outputs.now)
  pub next : p.next ≤ length old.checkpoints.now
  pub ascending : Ascending p r.step (drop p.next old.checkpoints.now)
  pub same_qubits : All (λ c. c.tableau.qubits ≡ r.tableau.qubits) old.checkpoints.now

-- what it cost that a replay went on, if these are the numbers of coins asked for before and after: each step was carried out or passed by a
-- frame, and coins were asked for by steps that were carried out, each for a random outcome
pub record Costs (before after : ℕ) (old new : Replay) : Type 0 where
  pub counted : (new.applied + new.by_frame) + old.step ≡ (old.applied + old.by_frame) + new.step
  pub asks : after + old.applied ≤ before + new.applied
  pub asks_random : after + ones old.outputs.free.items ≤ before + ones new.outputs.free.items

-- how a replay ended that followed an old run: no later than the two agree, and with no less to look back to
pub record HasEnded (coins : ℕ → Bool) (p : Plan) (old : OldRun) (from r : Replay) (e : End) : Type 0 where
  pub end : IsEnd from.tableau.qubits p r old.checkpoints.now (output_of old.outputs.now) e
  pub soon : EndsSoon from.tableau.qubits coins p from.cursor.all old.checkpoints.now old.outputs.now.records.items r.step
  pub raised : from.pivots.window ≤ r.pivots.window
