-- Bytes: the bytes of words, each with a bit for each of eight lanes.
-- Source: this project's own.
use Rattle.std.specs.Prelude.{ℕ, ◌/◌, ◌*◌, ◌%◌, ◌^◌, List, map}

-- byte l of a word, the lowest being byte 0
abbrev pub byte_at : ℕ → ℕ → ℕ
byte_at word l = word / 2 ^ (8 * l) % 256

-- byte l of each word
abbrev pub lane_bytes : ℕ → List ℕ → List ℕ
lane_bytes l words = map (λ w. byte_at w l) words
