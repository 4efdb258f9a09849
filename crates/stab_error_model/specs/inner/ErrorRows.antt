-- Rows of errors: what an error flips, by the rows of X and Z at its sites.
-- Source: this project's own.
use Rattle.std.specs.Prelude.{◌≡◌, ℕ, ◌+◌, Bool, List, Some, None}
use Rattle.std.specs.List.{AllZip}
use Rattle.stab_gates.specs.Letters.{◌⊕◌}
use Rattle.stab_regions.specs.Rows.{bits_at}
use Rattle.stab_parities.specs.OddNumbers.{row, odd}
use Rattle.stab_parities.specs.Ascending.{IsAscending}
use Rattle.stab_error_model.specs.declared.placed.PlacedLetter.{PlacedLetter}
use Rattle.stab_error_model.specs.declared.placed.Error.{Error}
use Rattle.stab_error_model.specs.declared.placed.Error.TheVariants as error

-- each row ascends
abbrev pub RowsAscend : List (List ℕ) → Type 0
RowsAscend rows = (k : ℕ) → IsAscending (row rows k)

-- a letter flips a bit, by the rows of X and Z at its site
abbrev pub letter_flips : ℕ → List (List ℕ) → PlacedLetter → Bool
letter_flips i rows f = bits_at i f.letter (row rows f.site.row) (row rows (f.site.row + 1))

-- an error flips it, by the same rows
abbrev pub error_names : ℕ → List (List ℕ) → Error → Bool
error_names i rows (error.Letter f) = letter_flips i rows f
error_names i rows (error.Letters f g) = letter_flips i rows f ⊕ letter_flips i rows g
error_names i rows (error.Record number flip None) = letter_flips i rows flip
error_names i rows (error.Record number flip (Some back)) = letter_flips i rows flip ⊕ letter_flips i rows back

-- a row names what an error flips, ascending
pub record IsErrorRow (single_errors : List (List ℕ)) (e : Error) (row : List ℕ) : Type 0 where
  pub ascending : IsAscending row
  pub value : (i : ℕ) → odd i row ≡ error_names i single_errors e

-- each error has its row
abbrev pub AreErrorRows : (single_errors : List (List ℕ)) → List Error → List (List ℕ) → Type 0
AreErrorRows single_errors errors rows = AllZip (IsErrorRow single_errors) errors rows
