-- Limits: how much memory the strings that a run keeps may take.
-- Source: this project's own.
use Rattle.std.specs.Prelude.{ℕ, ◌+◌, ◌/◌}

-- the most bytes of pivots
abbrev pub most_pivot_bytes : ℕ
most_pivot_bytes = 16777216

-- the bytes that a pivot of n letters is counted as: two bits a letter, and what each allocation takes besides
abbrev pub bytes_of : ℕ → ℕ
bytes_of n = n / 4 + 128

-- how many strings of n letters are stored at most
abbrev pub most_strings : ℕ → ℕ
most_strings n = most_pivot_bytes / bytes_of n
