-- Coins: the text of coins, and that of a file of them.
-- Source: this project's own.
use Rattle.std.specs.Prelude.{◌≡◌, ◌⊎◌, ℕ, Bool, if◌then◌else◌, List, [], ◌∷◌, ◌++◌, map}
use Rattle.clap.specs.Words.{Text}

-- the character of a coin: 0 or 1
abbrev pub coin_character : Bool → ℕ
coin_character coin = if coin then 49 else 48

-- the characters of coins, coin 0 first
abbrev pub coin_text : List Bool → Text
coin_text = map coin_character

-- a line end: a line feed, with a carriage return before it or not
abbrev pub IsLineEnd : Text → Type 0
IsLineEnd end = (end ≡ 10 ∷ []) ⊎ (end ≡ 13 ∷ 10 ∷ [])

-- what may follow the coins of a file: nothing, or one line end
abbrev pub IsFileEnd : Text → Type 0
IsFileEnd end = (end ≡ []) ⊎ IsLineEnd end

-- the text of a file stands for coins: it has their characters and the end of a file
abbrev pub StandsForCoins : Text → List Bool → Type 0
StandsForCoins text coins = (end : Text) × IsFileEnd end × (text ≡ coin_text coins ++ end)
