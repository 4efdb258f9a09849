-- Errors everywhere, in parts: those at a measurement and at the factors of a product, and the single errors of the table at a step.
-- Source: this project's own.
use Rattle.std.specs.Prelude.{ℕ, Bool, true, false, List, [], ◌∷◌, ◌++◌}
use Rattle.std.specs.List.{flat_map}
use Rattle.stab_gates.specs.declared.letter.Letter.{Letter}
use Rattle.stab_instructions.specs.declared.product.Factor.{Factor}
use Rattle.stab_items.specs.Steps.{Step}
use Rattle.stab_run.specs.Runs.{flip_of}
use Rattle.stab_regions.specs.SingleErrors.{SingleError, in_front, following, single_error_on, single_errors_on, all_at}
use Rattle.stab_error_model.specs.Errors.{Error, each_letter, wrong_record}

-- what takes a flip of a qubit back, unless the qubit is reset
abbrev pub back_of : (resets : Bool) → SingleError → List SingleError
back_of true f = []
back_of false f = f ∷ []

-- the errors after a reset
abbrev pub reset_errors : List Letter → (following : Letter → SingleError) → (resets : Bool) → List Error
reset_errors letters following true = each_letter letters following
reset_errors letters following false = []

-- the errors at a measurement of a letter between two sites, with its record of this number
abbrev pub measured_errors : List Letter → Letter → (front following : Letter → SingleError) → (resets : Bool) → (number : ℕ) → List Error
measured_errors letters l front following resets number =
    each_letter letters front ++ ((wrong_record number (front (flip_of l)) (back_of resets (following (flip_of l))) ∷ []) ++ reset_errors letters following resets)

-- the letters in front of each factor of a product
abbrev pub factor_errors : List Letter → (step : ℕ) → List Factor → List Error
factor_errors letters t factors = flat_map (λ f. each_letter letters (single_error_on t (in_front f.qubit))) factors

-- the single errors of the table at a step, and at factors
abbrev pub step_single_errors : ℕ → Step → List SingleError
step_single_errors t x = flat_map (single_errors_on t) (all_at x)

abbrev pub factor_single_errors : ℕ → List Factor → List SingleError
factor_single_errors t factors = flat_map (single_errors_on t) (flat_map (λ f. in_front f.qubit ∷ following f.qubit ∷ []) factors)
