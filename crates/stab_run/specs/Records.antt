-- Records: which one rec[-k] is, and the parity and the number of ones of bits.
-- Source: Stim's circuit file format, for rec[-k], and for the parity that DETECTOR and OBSERVABLE_INCLUDE take.
use Rattle.std.specs.Prelude.{ℕ, ◌+◌, ◌-◌, nat_lt, Bool, true, false, List, [], ◌∷◌, length, slice_index_or, if◌then◌else◌}
use Rattle.stab_gates.specs.Letters.{◌⊕◌}

-- the record rec[-k]: k counts back from the newest, so of m records, numbered from 0, it is record m - k. If k is more
-- than m there is no such record, and its bit is 0
abbrev pub looked_up : List Bool → ℕ → Bool
looked_up records k = if nat_lt (length records) k then false else slice_index_or records (length records - k) false

-- the parity of the records that the numbers k name; one that is named twice cancels
abbrev pub parity : List Bool → List ℕ → Bool
parity records [] = false
parity records (k ∷ ks) = looked_up records k ⊕ parity records ks

-- how many bits are 1
abbrev pub ones : List Bool → ℕ
ones [] = 0
ones (true ∷ bits) = 1 + ones bits
ones (false ∷ bits) = ones bits
