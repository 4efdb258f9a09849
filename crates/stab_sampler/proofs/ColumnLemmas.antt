-- Columns: a byte of each of some words, of which each has a bit for each of eight lanes.
use Rattle.stab_sampler.proofs.Names.{◌≡◌, ℕ, refl, ◌+◌, ◌*◌, ◌<◌, List, [], ◌∷◌, word_bit, lane_bits, lane_bytes}
use Rattle.stab_sampler.proofs.ShiftedBitLemmas.{word_bit-byte}

-- a lane of the bytes of words
pub column-lane : (position l : ℕ) (words : List ℕ) → l < 8 → lane_bits word_bit l (lane_bytes position words) ≡ lane_bits word_bit (8 * position + l) words
column-lane position l [] lt = refl
column-lane position l (w ∷ words) lt = λ i. word_bit-byte w position l lt i ∷ column-lane position l words lt i
