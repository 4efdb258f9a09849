-- Odd numbers: which numbers a list names an odd number of times, and rows of such lists.
-- Source: this project's own.
use Rattle.std.specs.Prelude.{ℕ, ◌==◌, Bool, false, List, [], ◌∷◌, slice_index_or}
use Rattle.stab_gates.specs.Letters.{◌⊕◌}

-- whether a number is in a list an odd number of times
abbrev pub odd : ℕ → List ℕ → Bool
odd i [] = false
odd i (k ∷ ks) = (k == i) ⊕ odd i ks

-- row r; a row past the end is empty
abbrev pub row : List (List ℕ) → ℕ → List ℕ
row rows r = slice_index_or rows r []
