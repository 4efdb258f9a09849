-- Coin rows: the coins of a table by their positions in it, and the words of lanes that have what they flip.
-- Source: this project's own.
use Rattle.std.specs.Prelude.{◌≡◌, ℕ, ◌+◌, ◌<◌, Bool, false, List, [], ◌∷◌, slice_index_or, if◌then◌else◌}
use Rattle.stab_items.specs.Items.{Items}
use Rattle.stab_items.specs.Steps.{qubits_of}
use Rattle.stab_sampler.specs.Lanes.{lane_bits}
use Rattle.stab_sampler.specs.Words.{word_bit}
use Rattle.stab_report.specs.Coins.{flips_of}
use Rattle.stab_run.specs.Coins.{zero_coins}
use Rattle.stab_commands.specs.CoinRuns.{deciding_coins}
use Rattle.stab_jobs.specs.declared.job.FaultLayout.{FaultLayout}
use Rattle.stab_commands.specs.declared.coin_rows.NumberedWord.{NumberedWord}
use Rattle.stab_report.specs.CoinTables.{coin_entry, whole_bits}
use Rattle.stab_report.specs.Deciders.{checked_bits}

-- the coin at a position
abbrev pub coin_at : Items → ℕ → ℕ
coin_at items k = slice_index_or (deciding_coins (qubits_of items) items) k 0

-- the bits that it flips
abbrev pub flips_at : Items → ℕ → List Bool
flips_at items k = whole_bits (flips_of (qubits_of items) items zero_coins (coin_at items k))

-- what is written of it
abbrev pub text_at : FaultLayout → Items → ℕ → List ℕ
text_at layout items k = coin_entry layout items (coin_at items k) (flips_at items k)

-- whether the coin at a position flips the detector or observable of a number
abbrev pub decides : Items → (number position : ℕ) → Bool
decides items i k = slice_index_or (checked_bits (flips_of (qubits_of items) items zero_coins (coin_at items k))) i false

-- the positions of those words of 64 lanes that are 1 in a lane
abbrev pub positions_in : (lane : ℕ) → List NumberedWord → List ℕ
positions_in l [] = []
positions_in l (w ∷ ws) = if word_bit w.word l then w.position ∷ positions_in l ws else positions_in l ws

-- this many lanes of words have the bits that the coins from a position on flip
abbrev pub HaveFlips : {W : Type 0} → (at : W → ℕ → Bool) → Items → (first lanes : ℕ) → List W → Type 0
HaveFlips at items first lanes words = (l : ℕ) → l < lanes → lane_bits at l words ≡ flips_at items (first + l)
