-- Coins: the bit of each number, from a list or from a seed, and a count of asks.
-- Source: D. J. Bernstein, ChaCha, a variant of Salsa20 (2008), for the bits of a seed. Which key, stream and bit a coin is taken
-- from is this project's own.
use Rattle.std.specs.Prelude.{ℕ, ◌+◌, ◌-◌, ◌%◌, ◌^◌, ◌==◌, min, Bool, false, List, ◌++◌, replicate, slice_index_or}
use Rattle.std.specs.Int.{w64, to_le_bytes}
use Rattle.rand_chacha.specs.ChaCha.{word_at, key_of}

-- a count after one more, as far as 64 bits can count
abbrev pub one_more : ℕ → ℕ
one_more count = min (count + 1) (2 ^ 64 - 1)

-- coins that are all 0
abbrev pub zero_coins : ℕ → Bool
zero_coins t = false

-- bit t of a list, and 0 past its end
abbrev pub list_coin : List Bool → ℕ → Bool
list_coin bits t = slice_index_or bits t false

-- the 32 bytes of a key: the seed's eight, the least significant first, then zeros
unfoldable pub key_bytes : ℕ → List ℕ
key_bytes seed = to_le_bytes w64 seed ++ replicate 24 0

-- the lowest bit of 32-bit word t of a shot's stream of ChaCha8, which is ChaCha with four double rounds
abbrev pub seed_coin : ℕ → ℕ → ℕ → Bool
seed_coin seed shot t = word_at 4 (key_of (key_bytes seed)) shot t % 2 == 1

-- what contracts see of coins from a list: the list, and how often a coin was asked for
pub record Listed : Type 0 where
  pub bits : List Bool
  pub asks : ℕ

-- what contracts see of coins from a seed: the seed, the shot, and how often a coin was asked for
pub record Seeded : Type 0 where
  pub seed : ℕ
  pub shot : ℕ
  pub asks : ℕ
