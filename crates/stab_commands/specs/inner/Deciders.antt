-- Deciders: the lanes in which a word, or one of several, is 1.
-- Source: this project's own.
use Rattle.std.specs.Prelude.{ℕ, ◌-◌, Bool, false, List, slice_index_or}
use Rattle.stab_regions.specs.SingleErrors.{numbers_where}
use Rattle.stab_sampler.specs.Lanes.{lane_bits}

-- the numbers from a first one up to an end in whose lane a word is 1; the first has lane 0
abbrev pub ones_of : {W : Type 0} → (W → ℕ → Bool) → W → (first end : ℕ) → List ℕ
ones_of at word first end = numbers_where (λ k. at word (k - first)) first (end - first)

-- the same of the word at a position
abbrev pub ones_at : {W : Type 0} → (W → ℕ → Bool) → List W → (position first end : ℕ) → List ℕ
ones_at at words i first end = numbers_where (λ k. slice_index_or (lane_bits at (k - first) words) i false) first (end - first)
