-- Deciders: which coins decide a detector or an observable, by the table of coins.
-- Source: this project's own.
use Rattle.std.specs.Prelude.{ℕ, Bool, false, List, [], ◌∷◌, ◌++◌, slice_index_or, if◌then◌else◌}
use Rattle.stab_report.specs.Coins.{ShotBits, CoinRow}

-- the detectors of a run, and after them its observables
abbrev pub checked_bits : ShotBits → List Bool
checked_bits b = b.detectors ++ b.observables

-- the coins that flip the bit of a number: a column of the table
abbrev pub deciders : (number : ℕ) → List CoinRow → List ℕ
deciders i [] = []
deciders i (row ∷ rows) = if slice_index_or (checked_bits row.flips) i false then row.coin ∷ deciders i rows else deciders i rows
