-- Coins: in which bits a run with a coin flipped differs from the run without, and the table of the coins that decide an outcome.
-- Source: this project's own, after the Pauli frames of C. Gidney, Stim (2021), which add.
use Rattle.std.specs.Prelude.{◌≡◌, ℕ, ◌==◌, Bool, List, [], ◌∷◌, All, map, if◌then◌else◌}
use Rattle.stab_gates.specs.Letters.{◌⊕◌}
use Rattle.stab_items.specs.Items.{Items}
use Rattle.stab_items.specs.Steps.{unroll}
use Rattle.stab_run.specs.Coins.{zero_coins}
use Rattle.stab_run.specs.ProgramStates.{StepFits}
use Rattle.stab_run.specs.Runs.{State, run_of}
use Rattle.stab_frames.specs.Flips.{flipped}
use Rattle.stab_results.specs.Formats.{one_positions}

-- the bits that a run gives
pub record ShotBits : Type 0 where
  pub records : List Bool
  pub detectors : List Bool
  pub observables : List Bool

abbrev pub shot_bits_of : State → ShotBits
shot_bits_of s = record { records = s.records; detectors = s.detectors; observables = s.observables }

-- bits, inverted where others are 1
abbrev pub inverted : ShotBits → ShotBits → ShotBits
inverted bits flips = record {
  records = flipped bits.records flips.records;
  detectors = flipped bits.detectors flips.detectors;
  observables = flipped bits.observables flips.observables;
}

-- coins with the one of this number flipped
abbrev pub coin_flipped : ℕ → (ℕ → Bool) → ℕ → Bool
coin_flipped t coins s = (s == t) ⊕ coins s

-- 1 if the run with this coin flipped differs from the run with these coins
abbrev pub flips_of : (n : ℕ) → Items → (coins : ℕ → Bool) → ℕ → ShotBits
flips_of n items coins t = inverted (shot_bits_of (run_of n (coin_flipped t coins) items)) (shot_bits_of (run_of n coins items))

-- a coin, and 1 for each bit of a run that it flips
pub record CoinRow : Type 0 where
  pub coin : ℕ
  pub flips : ShotBits

-- the row of a coin, by the runs with these coins and with that one flipped
abbrev pub row_by : (n : ℕ) → Items → (coins : ℕ → Bool) → ℕ → CoinRow
row_by n items coins t = record { coin = t; flips = flips_of n items coins t }

-- bits, inverted by the row of each coin that is 1
abbrev pub with_rows : (coins : ℕ → Bool) → List CoinRow → ShotBits → ShotBits
with_rows coins [] bits = bits
with_rows coins (r ∷ rows) bits = with_rows coins rows (if coins r.coin then inverted bits r.flips else bits)

-- A row for each coin that decides an outcome, in order: for all random bits, runs with it flipped and without differ in its row's bits;
-- those of any other coin are the same; and the bits of a run are those with coins 0, inverted by the rows of the coins that are 1.
pub record IsCoinTable (n : ℕ) (items : Items) (rows : List CoinRow) : Type 0 where
  pub listed : (coins : ℕ → Bool) → rows ≡ map (row_by n items coins) (one_positions (run_of n coins items).free)
  pub others : (coins : ℕ → Bool) (t : ℕ) → All (λ (r : CoinRow). r.coin ≡ t → ⊥) rows → run_of n (coin_flipped t coins) items ≡ run_of n coins items
  pub adds : (coins : ℕ → Bool) → shot_bits_of (run_of n coins items) ≡ with_rows coins rows (shot_bits_of (run_of n zero_coins items))

-- the table of items that nothing refuses
abbrev pub table_of : (n : ℕ) → Items → List CoinRow
table_of n items = map (row_by n items zero_coins) (one_positions (run_of n zero_coins items).free)

-- items whose steps are on n qubits have a table of coins
abbrev pub CoinsHaveRows : Type 0
CoinsHaveRows = (n : ℕ) (items : Items) → All (StepFits n) (unroll items) → IsCoinTable n items (table_of n items)
