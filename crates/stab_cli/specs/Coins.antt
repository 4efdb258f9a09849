-- Coins of a file: how reading them ends.
-- Source: this project's own.
use Rattle.std.specs.Prelude.{ℕ, Bool, List, Result, Ok, Err}
use Rattle.std.specs.Global.{Vec}
use Rattle.stab_io.specs.Devices.{InputView}
use Rattle.stab_circuit.specs.Inputs.{GaveText, IsUnread}
use Rattle.stab_args.specs.Coins.{StandsForCoins}
use Rattle.stab_cli.specs.declared.coins.CoinsFault.{CoinsFault}
use Rattle.stab_cli.specs.declared.coins.CoinsFault.TheVariants.{Unread, Wrong}

-- How reading a file of coins ends: the input gave a text whole, within its limit, that stands for these coins, or for none;
-- or the text was not read whole, or the answer is 20.
abbrev pub ReadsCoins : InputView → InputView → Result (Vec Bool) CoinsFault → Type 0
ReadsCoins old new (Ok coins) = (text : List ℕ) × GaveText old new text × StandsForCoins text coins.items
ReadsCoins old new (Err Wrong) = (text : List ℕ) × GaveText old new text × ((coins : List Bool) → StandsForCoins text coins → ⊥)
ReadsCoins old new (Err (Unread refusal)) = IsUnread old new refusal
