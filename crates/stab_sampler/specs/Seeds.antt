-- Seeds: the coins of this many shots of a seed, as words.
-- Source: this project's own.
use Rattle.std.specs.Prelude.{◌≡◌, ℕ, ◌+◌, ◌*◌, ◌%◌, ◌^◌, ◌<◌, ◌&&◌, nat_lt, Bool, List, [], slice_index_or}
use Rattle.rand_chacha.specs.ChaCha.{word_at, key_of}
use Rattle.stab_run.specs.Coins.{key_bytes, seed_coin}
use Rattle.stab_sampler.specs.declared.coins.SeededShots.{SeededShots}
use Rattle.stab_sampler.specs.Words.{word_bit}

-- the coins of the shot i after the first; numbers of shots go on from 2^64 - 1 with 0
abbrev pub shot_coins : (seed first i : ℕ) → ℕ → Bool
shot_coins seed first i t = seed_coin seed ((first + i) % 2 ^ 64) t

-- coin t of lane l: that of the shot l after the first, and 0 if there are fewer shots
abbrev pub lane_coin : SeededShots → (l t : ℕ) → Bool
lane_coin c l t = nat_lt l c.count && shot_coins c.seed c.first l t

-- 32-bit word t of a shot's stream, whose lowest bit is its coin t
abbrev pub shot_word : (seed shot t : ℕ) → ℕ
shot_word seed shot t = word_at 4 (key_of (key_bytes seed)) shot t

-- bit l of word k is coin 64 g + k of lane l, of this many lanes
abbrev pub AreCoins : SeededShots → (group lanes : ℕ) → List ℕ → Type 0
AreCoins c group lanes words = (k l : ℕ) → k < 64 → l < lanes → word_bit (slice_index_or words k 0) l ≡ lane_coin c l (64 * group + k)

-- the same holds for each of some parts, which have 64 lanes each, one after another
abbrev pub AreCoinsOfParts : SeededShots → (group parts : ℕ) → List (List ℕ) → Type 0
AreCoinsOfParts c group parts words =
    (p k l : ℕ) → p < parts → k < 64 → l < 64 → word_bit (slice_index_or (slice_index_or words p []) k 0) l ≡ lane_coin c (64 * p + l) (64 * group + k)
