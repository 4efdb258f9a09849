-- Sources: the coins of a shot, and its run.
-- Source: this project's own.
use Rattle.std.specs.Prelude.{ℕ, Bool}
use Rattle.stab_items.specs.Items.{Items}
use Rattle.stab_items.specs.Steps.{qubits_of}
use Rattle.stab_run.specs.Coins.{list_coin, seed_coin}
use Rattle.stab_run.specs.Runs.{State, run_of}
use Rattle.stab_jobs.specs.declared.job.Source.{Source}
use Rattle.stab_jobs.specs.declared.job.Source.TheVariants.{Seed, List as Listed}

-- the coins of a shot: those of the shot's own stream under the seed, or the whole list anew
abbrev pub coins_of_shot : Source → ℕ → ℕ → Bool
coins_of_shot (Seed seed) shot = seed_coin seed shot
coins_of_shot (Listed list) shot = list_coin list.items

-- the run of a shot, on as many qubits as the items name
abbrev pub run_of_shot : Source → Items → ℕ → State
run_of_shot source items shot = run_of (qubits_of items) (coins_of_shot source shot) items
