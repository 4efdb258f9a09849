-- Groups: how many coins steps take that are given together.
-- Source: this project's own.
use Rattle.std.specs.Prelude.{ℕ, length}
use Rattle.stab_items.specs.declared.steps.Steps.{Steps}
use Rattle.stab_items.specs.declared.steps.Steps.TheVariants.{Gates, Pairs, Measurements, Detectors, Single}
use Rattle.stab_items.specs.StepValues.{step_shown}
use Rattle.stab_run.specs.Points.{coins_of}

-- how many coins steps take: each of some measurements takes one
abbrev pub coins_together : Steps → ℕ
coins_together (Gates g qubits) = 0
coins_together (Pairs axis pairs) = 0
coins_together (Measurements m targets) = length targets.now
coins_together (Detectors ds) = 0
coins_together (Single step) = coins_of (step_shown step)
