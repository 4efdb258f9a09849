-- Units: coins of which each lane has one that is 1.
-- Source: this project's own.
use Rattle.std.specs.Prelude.{ℕ, ◌<◌, ◌==◌, ◌&&◌, nat_lt, Bool, List, length, slice_index_or}

-- numbers that ascend
abbrev pub AreAscending : List ℕ → Type 0
AreAscending numbers = (i j : ℕ) → i < j → j < length numbers → slice_index_or numbers i 0 < slice_index_or numbers j 0

-- coin t of lane l: 1 if t is number l of these; lanes beyond them have no such coin
abbrev pub unit_coin : List ℕ → (l t : ℕ) → Bool
unit_coin numbers l t = nat_lt l (length numbers) && (slice_index_or numbers l 0 == t)
