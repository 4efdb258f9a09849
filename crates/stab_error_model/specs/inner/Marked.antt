-- Marked errors: what the values of the code mark, and the single errors of the table at marks.
-- Source: this project's own.
use Rattle.std.specs.Prelude.{ℕ, ◌+◌, List, [], ◌∷◌, ◌++◌}
use Rattle.stab_regions.specs.SingleErrors.{SingleError, in_front, single_errors_on}
use Rattle.stab_error_model.specs.Errors.{Marks}
use Rattle.stab_error_model.specs.declared.marks.Marks.{Marks as MarksValue}

-- the marks that a value stands for
abbrev pub marks_shown : MarksValue → Marks
marks_shown m = record { tag = m.tag.now; qubits = m.qubits.now; step = m.step }

-- the single errors at targets, the first of which is at step number t
abbrev pub target_single_errors : ℕ → List ℕ → List SingleError
target_single_errors t [] = []
target_single_errors t (q ∷ qs) = single_errors_on t (in_front q) ++ target_single_errors (t + 1) qs

-- those that an instruction marks
abbrev pub marked_single_errors : Marks → List SingleError
marked_single_errors m = target_single_errors m.step m.qubits
