-- References: a run with all coins 0, of which all is recorded.
-- Source: this project's own.
use Rattle.std.specs.Prelude.{◌≡◌, ℕ, length, None}
use Rattle.stab_items.specs.Items.{Items}
use Rattle.stab_items.specs.Steps.{unroll, check_within}
use Rattle.stab_run.specs.Records.{ones}
use Rattle.stab_run.specs.Points.{origin}
use Rattle.stab_frames.specs.PivotsOfSteps.{AreRight}
use Rattle.stab_frames.specs.Pivots.{pivot_at}
use Rattle.stab_sampler.specs.declared.reference.Reference.{Reference}
use Rattle.stab_sampler.specs.Shots.{IsShot}
use Rattle.stab_run.specs.Coins.{zero_coins}

-- nothing refuses the items on n qubits, the shot is their run with all coins 0, and each random outcome has a string that exchanges it
pub record IsReference (n : ℕ) (items : Items) (r : Reference) : Type 0 where
  pub checked : check_within n items ≡ None
  pub shot : IsShot n zero_coins items r.shot
  pub qubits : r.strings.qubits ≡ n
  pub all : length r.strings.strings ≡ ones r.shot.free.items
  pub right : AreRight n zero_coins (pivot_at r.strings.strings r.shot.free.items) (unroll items) origin
