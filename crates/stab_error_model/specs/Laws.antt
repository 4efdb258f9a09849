-- Laws of errors: each circuit has a table of errors, and an answer to how few of them are unseen together.
-- Source: this project's own.
use Rattle.std.specs.Prelude.{◌≡◌, ℕ, ◌<◌, ◌^◌, Bool, false, All, Some, None}
use Rattle.stab_items.specs.Items.{Items}
use Rattle.stab_items.specs.Steps.{unroll}
use Rattle.stab_run.specs.ProgramStates.{StepFits}
use Rattle.stab_jobs.specs.declared.job.ErrorLetters.{ErrorLetters}
use Rattle.stab_search.specs.declared.answer.Answer.{Answer}
use Rattle.stab_error_model.specs.Errors.{errors_of}
use Rattle.stab_error_model.specs.ErrorTables.{ErrorTableState, IsErrorTable}
use Rattle.stab_error_model.specs.Unseen.{IsDistance}

-- the errors of a circuit whose steps fit have a table and a distance, if no more errors are asked for than a list in memory can hold
abbrev pub CircuitsHaveDistances : Type 0
CircuitsHaveDistances =
    (n : ℕ) (everywhere : Bool) (letters : ErrorLetters) (items : Items) (most : ℕ) → All (StepFits n) (unroll items) → most < 2 ^ 63 →
    (t : ErrorTableState) × (a : Answer) × (t.errors ≡ errors_of everywhere letters items) × IsErrorTable n items t × IsDistance false None n items t.errors (Some most) a
