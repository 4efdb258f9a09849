-- Progress: how far a call takes a replay, and what it carries out on the way.
-- Source: this project's own.
use Rattle.std.specs.Prelude.{◌≡◌, ℕ, ◌+◌, ◌≤◌, Bool, List, All, length, drop}
use Rattle.stab_items.specs.Steps.{Step, most_steps}
use Rattle.stab_run.specs.Points.{all_coins_of}
use Rattle.stab_run.specs.ProgramStates.{StepFits}
use Rattle.stab_recording.specs.declared.replay.Replay.{Replay}
use Rattle.stab_recording.specs.Replays.{IsAtStep}

-- steps that fit on n qubits, and are no more than a circuit may have
pub record AreRunnable (n : ℕ) (ys : List Step) : Type 0 where
  pub fits : All (StepFits n) ys
  pub few : length ys ≤ most_steps

-- whether memory was refused or not, a replay has the same steps on the same qubits, is no less far in them, looks back no less far, may keep no
-- fewer strings, and asked for no more coins than the steps use up that it passed, if these are the numbers of coins asked for before and after
pub record IsFurther (before after : ℕ) (old new : Replay) : Type 0 where
  pub all : new.cursor.all ≡ old.cursor.all
  pub qubits : new.tableau.qubits ≡ old.tableau.qubits
  pub step : old.step ≤ new.step
  pub window : old.pivots.window ≤ new.pivots.window
  pub most : old.pivots.strings.most ≤ new.pivots.strings.most
  pub asked : after + all_coins_of (drop new.step old.cursor.all) ≤ before + all_coins_of (drop old.step old.cursor.all)

-- it carried out all steps that it passed, and saved no checkpoint
pub record HasCarriedOut (n : ℕ) (coins : ℕ → Bool) (old new : Replay) : Type 0 where
  pub at_step : IsAtStep n coins old.cursor.all new
  pub saved : new.saved.items ≡ old.saved.items
  pub by_frame : new.by_frame ≡ old.by_frame
