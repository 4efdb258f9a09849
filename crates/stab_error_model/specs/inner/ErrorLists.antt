-- Adding errors: where the rows of values are in a table of single errors, and errors put after others.
-- Source: this project's own.
use Rattle.std.specs.Prelude.{◌≡◌, ℕ, List, ◌∷◌, ◌++◌, map, drop, All, Some, None}
use Rattle.stab_gates.specs.declared.letter.Letter.TheVariants as letter
use Rattle.stab_regions.specs.SingleErrors.{SingleError}
use Rattle.stab_error_model.specs.Errors.{Error}
use Rattle.stab_error_model.specs.Placed.{single_error_of_letter, error_shown}
use Rattle.stab_error_model.specs.declared.placed.ErrorSite.{ErrorSite}
use Rattle.stab_error_model.specs.declared.placed.Error.{Error as ErrorValue}
use Rattle.stab_error_model.specs.declared.placed.Error.TheVariants as error

-- X and then Z at a site are in a list of single errors from its row on
abbrev pub Stands : ErrorSite → List SingleError → Type 0
Stands p single_errors = (rest : List SingleError) × (drop p.row single_errors ≡ single_error_of_letter p letter.X ∷ single_error_of_letter p letter.Z ∷ rest)

-- the same of all sites of an error
abbrev pub ErrorStands : List SingleError → ErrorValue → Type 0
ErrorStands single_errors (error.Letter f) = Stands f.site single_errors
ErrorStands single_errors (error.Letters f g) = Stands f.site single_errors × Stands g.site single_errors
ErrorStands single_errors (error.Record number flip None) = Stands flip.site single_errors
ErrorStands single_errors (error.Record number flip (Some back)) = Stands flip.site single_errors × Stands back.site single_errors

-- errors are put after others; and all are in a list of single errors, if the others are and this holds for the list
pub record AddsErrors (Is : List SingleError → Type 0) (given : List Error) (old new : List ErrorValue) : Type 0 where
  pub errors : map error_shown new ≡ map error_shown old ++ given
  pub stand : (single_errors : List SingleError) → Is single_errors → All (ErrorStands single_errors) old → All (ErrorStands single_errors) new

-- from a row on a list of single errors has these
abbrev pub HasFrom : ℕ → List SingleError → List SingleError → Type 0
HasFrom row mine single_errors = (rest : List SingleError) × (drop row single_errors ≡ mine ++ rest)

-- some of these errors were put after others, and the rest is still to come, whose rows begin here
pub record IsUnderWay (Is : List SingleError → Type 0) (all rest : List Error) (row : ℕ) (single_errors_left : List SingleError) (old now : List ErrorValue) : Type 0 where
  pub given : List Error
  pub adds : AddsErrors Is given old now
  pub parts : all ≡ given ++ rest
  pub has : (single_errors : List SingleError) → Is single_errors → HasFrom row single_errors_left single_errors
