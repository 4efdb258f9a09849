-- Placed single errors: which single errors the values of the code stand for.
-- Source: this project's own.
use Rattle.stab_regions.specs.SingleErrors.{SingleError}
use Rattle.stab_report.specs.declared.single_error_list.PlacedSingleError.{PlacedSingleError}

-- the single error that a value stands for
abbrev pub single_error_placed : PlacedSingleError → SingleError
single_error_placed f = record { letter = f.letter; qubit = f.qubit; before = f.before; step = f.step }
