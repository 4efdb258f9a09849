-- Placed letters: which errors the values of the code stand for.
-- Source: this project's own.
use Rattle.std.specs.Prelude.{List, [], ◌∷◌, Option, Some, None}
use Rattle.stab_gates.specs.declared.letter.Letter.{Letter}
use Rattle.stab_regions.specs.SingleErrors.{SingleError}
use Rattle.stab_error_model.specs.Errors.{Error, letter as one_letter, letters as two_letters, wrong_record}
use Rattle.stab_error_model.specs.declared.placed.ErrorSite.{ErrorSite}
use Rattle.stab_error_model.specs.declared.placed.PlacedLetter.{PlacedLetter}
use Rattle.stab_error_model.specs.declared.placed.Error.{Error as ErrorValue}
use Rattle.stab_error_model.specs.declared.placed.Error.TheVariants as error

-- a letter at a site
abbrev pub single_error_of_letter : ErrorSite → Letter → SingleError
single_error_of_letter p l = record { letter = l; qubit = p.qubit; before = p.before; step = p.step }

-- the single error that a value stands for
abbrev pub single_error_shown : PlacedLetter → SingleError
single_error_shown f = single_error_of_letter f.site f.letter

-- the same, if there is one
abbrev pub single_errors_shown : Option PlacedLetter → List SingleError
single_errors_shown None = []
single_errors_shown (Some f) = single_error_shown f ∷ []

-- the error that a value stands for
abbrev pub error_shown : ErrorValue → Error
error_shown (error.Letter f) = one_letter (single_error_shown f)
error_shown (error.Letters f g) = two_letters (single_error_shown f) (single_error_shown g)
error_shown (error.Record number flip back) = wrong_record number (single_error_shown flip) (single_errors_shown back)
