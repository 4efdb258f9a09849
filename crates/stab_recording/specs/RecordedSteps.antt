-- Recorded steps: what a run has after it carried out some more of the steps that a cursor has left, and recorded their pivots.
-- Source: this project's own.
use Rattle.std.specs.Prelude.{◌≡◌, ℕ, Bool, take, drop}
use Rattle.stab_items.specs.Cursors.{CursorState}
use Rattle.stab_run.specs.ProgramStates.{ProgramState}
use Rattle.stab_frames.specs.declared.pivot_recorder.PivotRecorder.{PivotRecorder}
use Rattle.stab_frames.specs.inner.RecordedPivots.{RecordsSteps}

-- it carried out this many of the steps that a cursor had left, or all if they are fewer, and recorded them; `later` and `after` count steps and
-- coins asked for where `applied` and `asked` did so before
pub record HasRecorded (n : ℕ) (coins : ℕ → Bool) (most : ℕ) (cursor rest : CursorState) (pivots following : PivotRecorder) (old new : ProgramState) (applied later asked after : ℕ) : Type 0 where
  pub left : rest.left ≡ drop most cursor.left
  pub done : RecordsSteps n coins (take most cursor.left) pivots following old new applied later asked after
