-- Tables of errors: the detectors and observables that each error flips, and what several errors flip together.
-- Source: C. Gidney, Stim: a fast stabilizer circuit simulator (2021), detector error models.
use Rattle.std.specs.Prelude.{ℕ, Bool, false, List, [], ◌∷◌}
use Rattle.stab_gates.specs.Letters.{◌⊕◌}
use Rattle.stab_parities.specs.OddNumbers.{odd, row}

-- a table: a row for each error, with the numbers of what it flips; a number below `detectors` is a detector, any other an observable
pub record ErrorTable : Type 0 where
  pub detectors : ℕ
  pub rows : List (List ℕ)

-- whether errors together flip a detector or observable: an odd number of them flip it, so an error that is there twice cancels
abbrev pub flipped_by_rows : List (List ℕ) → List ℕ → ℕ → Bool
flipped_by_rows rows [] i = false
flipped_by_rows rows (r ∷ errors) i = odd i (row rows r) ⊕ flipped_by_rows rows errors i
