-- Runs: over what the runs that have one coin 1 are propagated, and what these give.
-- Source: this project's own.
use Rattle.std.specs.Prelude.{◌≡◌, ℕ, Bool, List, All, None, map, IfSome}
use Rattle.stab_items.specs.Items.{Items}
use Rattle.stab_items.specs.Steps.{unroll, check_within}
use Rattle.stab_run.specs.Runs.{run_of}
use Rattle.stab_run.specs.ProgramStates.{StepFits}
use Rattle.stab_results.specs.Formats.{one_positions}
use Rattle.stab_sampler.specs.Shots.{IsShot}
use Rattle.stab_sampler.specs.Lanes.{lane_bits}
use Rattle.stab_sampler.specs.References.{IsReference}
use Rattle.stab_sampler.specs.declared.shots.Shots.{Shots}
use Rattle.stab_report.specs.Coins.{ShotBits, IsCoinTable, table_of}
use Rattle.stab_run.specs.Coins.{zero_coins}
use Rattle.stab_report.specs.ItemPaths.{step_of_coin}
use Rattle.stab_commands.specs.declared.coin_runs.CoinRuns.{CoinRuns}

-- the numbers of the coins that decide an outcome
abbrev pub deciding_coins : ℕ → Items → List ℕ
deciding_coins n items = one_positions (run_of n zero_coins items).free

-- it has the run with all coins 0, the coins that decide, where each does, and a reference if there is one
pub record AreCoinRuns (n : ℕ) (items : Items) (r : CoinRuns) : Type 0 where
  pub checked : check_within n items ≡ None
  pub fits : All (StepFits n) (unroll items)
  pub table : IsCoinTable n items (table_of n items)
  pub zero : IsShot n zero_coins items r.zero
  pub numbers : r.numbers.items ≡ deciding_coins n items
  pub steps : r.steps.items ≡ map (step_of_coin (unroll items)) (deciding_coins n items)
  pub reference : IfSome r.reference (λ f. IsReference n items f)

-- lane l of this many words has these bits
pub record LaneHasBits {W : Type 0} (at : W → ℕ → Bool) (l : ℕ) (bits : ShotBits) (lists : Shots W) : Type 0 where
  pub records : lane_bits at l lists.records.items ≡ bits.records
  pub detectors : lane_bits at l lists.detectors.items ≡ bits.detectors
  pub observables : lane_bits at l lists.observables.items ≡ bits.observables
