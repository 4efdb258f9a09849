-- Step counts: how counts grow by one step.
-- Source: this project's own.
use Rattle.std.specs.Prelude.{◌≤◌, ◌+◌}
use Rattle.stab_items.specs.Steps.{Step, makes, detectors_in}
use Rattle.stab_run.specs.Points.{coins_of}
use Rattle.stab_script.specs.declared.reply.StepCounts.{StepCounts}

-- the counts with those of one more step
abbrev pub counted_with : StepCounts → Step → StepCounts
counted_with c x = record { steps = c.steps + 1; records = c.records + makes x; detectors = c.detectors + detectors_in x; coins = c.coins + coins_of x }

-- the counts with those of others
abbrev pub counts_added : StepCounts → StepCounts → StepCounts
counts_added c d = record { steps = c.steps + d.steps; records = c.records + d.records; detectors = c.detectors + d.detectors; coins = c.coins + d.coins }

-- no step makes more than one of each
pub record IsOfSteps (c : StepCounts) : Type 0 where
  pub records : c.records ≤ c.steps
  pub detectors : c.detectors ≤ c.steps
  pub coins : c.coins ≤ c.steps
