-- Words: a bit for each lane.
-- Source: this project's own.
use Rattle.std.specs.Prelude.{ℕ, ◌/◌, ◌%◌, Bool, List, eqb, slice_index_or}
use Rattle.std.specs.Int.{bit_at}

-- bit l of a number
abbrev pub word_bit : ℕ → ℕ → Bool
word_bit word l = eqb (bit_at word l) 1

-- bit l of words with 64 bits each
abbrev pub wide_bit : List ℕ → ℕ → Bool
wide_bit words l = word_bit (slice_index_or words (l / 64) 0) (l % 64)
