-- Blocks: 64 words, of which word l has 64 bits of lane l, those of each block after those of the block before.
-- Source: H. S. Warren, Hacker's Delight (2nd edition, 2012), section 7-3, for the masked exchanges that transpose a
-- bit matrix.
use Rattle.std.specs.Prelude.{ℕ, bit_xor, bit_and, ◌/◌, ◌*◌, ◌%◌, ◌^◌, List, get_or}
use Rattle.std.specs.List.{flat_map}
use Rattle.std.specs.Int.{w64, to_le_bytes}

-- of the bits of a mask, those that differ between a second word and a first one, there this many positions higher
abbrev pub differing_bits : (first second mask positions : ℕ) → ℕ
differing_bits first second mask positions = bit_and (bit_xor (first / 2 ^ positions) second) mask

-- the first word after the two have exchanged these bits
abbrev pub first_exchanged : (first second mask positions : ℕ) → ℕ
first_exchanged first second mask positions = bit_xor first (differing_bits first second mask positions * 2 ^ positions % 18446744073709551616)

-- and the second word
abbrev pub second_exchanged : (first second mask positions : ℕ) → ℕ
second_exchanged first second mask positions = bit_xor second (differing_bits first second mask positions)

-- the bytes of a lane, the lowest of each word first
abbrev pub row_bytes : (lane : ℕ) → List (List ℕ) → List ℕ
row_bytes lane blocks = flat_map (λ block. to_le_bytes w64 (get_or block lane 0)) blocks
