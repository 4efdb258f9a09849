-- Coin tables: what `coins` writes of a circuit's table of coins, and how a call of it ends.
-- Source: this project's own.
use Rattle.std.specs.Prelude.{◌≡◌, ℕ, Bool, List, ◌++◌, codes, Result}
use Rattle.std.specs.List.{flat_map}
use Rattle.stab_io.specs.Devices.{InputView, OutputView}
use Rattle.stab_io.specs.declared.refusal.Fault.{Fault}
use Rattle.stab_items.specs.Items.{Items}
use Rattle.stab_items.specs.Steps.{unroll, qubits_of, records_of, detectors_of}
use Rattle.stab_results.specs.declared.format.Kinds.{Kinds}
use Rattle.stab_results.specs.declared.format.Kinds.TheVariants.{Whole}
use Rattle.stab_results.specs.Formats.{entry, one_positions, shot_bytes}
use Rattle.stab_report.specs.Coins.{ShotBits, CoinRow, IsCoinTable, table_of}
use Rattle.stab_report.specs.ItemPaths.{step_of_coin, path_of_coin}
use Rattle.stab_jobs.specs.declared.job.FaultLayout.{FaultLayout}
use Rattle.stab_jobs.specs.declared.job.FaultLayout.TheVariants.{Lines, Shots}
use Rattle.stab_report.specs.Endings.{Ends, Sends}
use Rattle.stab_report.specs.Texts.{row_head}

-- all bits of a run, in order
abbrev pub whole_bits : ShotBits → List Bool
whole_bits b = b.records ++ (b.detectors ++ b.observables)

-- the kinds of these bits
abbrev pub whole_kinds : Items → Kinds
whole_kinds items = Whole (records_of (unroll items)) (detectors_of (unroll items))

-- the line of a coin: how many steps are in front, the path of its item, its number, and the bits that it flips, as `17 3/0 c12 M4 M9 D2 L0`
abbrev pub coin_line : Items → (coin : ℕ) → (flips : List Bool) → List ℕ
coin_line items t flips =
    row_head (step_of_coin (unroll items) t) (path_of_coin items t) (codes "c") t ++ (flat_map (entry (whole_kinds items)) (one_positions flips) ++ codes "\n")

-- what is written of a coin: its line, or a shot of the bits that it flips
abbrev pub coin_entry : FaultLayout → Items → (coin : ℕ) → (flips : List Bool) → List ℕ
coin_entry Lines items t flips = coin_line items t flips
coin_entry (Shots format) items t flips = shot_bytes format (whole_kinds items) flips

-- what is written of a table
abbrev pub coins_text : FaultLayout → Items → List CoinRow → List ℕ
coins_text layout items rows = flat_map (λ (row : CoinRow). coin_entry layout items row.coin (whole_bits row.flips)) rows

-- the coins that decide, on the circuit's own qubits, are those of a table, and the text of it was sent
abbrev pub SendsTable : {T : Type 0} → (Items → List CoinRow → List ℕ) → OutputView → OutputView → Items → Result T Fault → Type 0
SendsTable text old new items r = IsCoinTable (qubits_of items) items (table_of (qubits_of items) items) × Sends (text items (table_of (qubits_of items) items)) old new r

-- How a call of `coins` ends, over an input and an output.
abbrev pub EndsCoins : {T : Type 0} → FaultLayout → InputView → InputView → OutputView → OutputView → Result T Fault → Type 0
EndsCoins layout i i' o o' r = Ends (λ _. o' ≡ o) (SendsTable (coins_text layout) o o') i i' r
