-- Coin replies: the table of coins of the items of a script, and why one of their bits is random.
-- Source: this project's own.
use Rattle.std.specs.Prelude.{ℕ, List, Result, Ok, Err, if◌then◌else◌}
use Rattle.stab_io.specs.declared.refusal.Refusal.{Refusal}
use Rattle.stab_io.specs.declared.refusal.Refusal.TheVariants.{PlaceOutOfRange}
use Rattle.stab_items.specs.Items.{Items}
use Rattle.stab_items.specs.Steps.{qubits_of}
use Rattle.stab_report.specs.Coins.{table_of}
use Rattle.stab_jobs.specs.declared.job.FaultLayout.TheVariants.{Lines}
use Rattle.stab_report.specs.declared.random.Bit.{Bit}
use Rattle.stab_report.specs.CoinTables.{coins_text}
use Rattle.stab_report.specs.Reasons.{has_bit, number_of_bit, reason_text}

-- the table, as the command `coins` writes it
abbrev pub coins_shown : Items → List ℕ
coins_shown items = coins_text Lines items (table_of (qubits_of items) items)

-- the line of a bit, as `deterministic --explain` writes it, or 12 if there is no such bit
abbrev pub why_shown : Items → Bit → Result (List ℕ) Refusal
why_shown items b = if has_bit items b then Ok (reason_text items (table_of (qubits_of items) items) (number_of_bit items b)) else Err PlaceOutOfRange
