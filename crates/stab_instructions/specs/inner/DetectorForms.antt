-- Detector forms: how the code keeps the records of a detector, and the coordinates before them.
-- Source: this project's own.
use Rattle.std.specs.Prelude.{◌≤◌, ℕ, List, take, All}
use Rattle.stab_instructions.specs.declared.detector.Form.{Form}
use Rattle.stab_instructions.specs.declared.detector.Form.TheVariants as form
use Rattle.stab_instructions.specs.Lookbacks.{IsLookback}
use Rattle.stab_instructions.specs.Words.{arguments_of}

-- the coordinates that are stored
abbrev pub form_coordinates : Form → List (List ℕ)
form_coordinates (form.Short bytes numbers text records) = arguments_of (take bytes text)
form_coordinates (form.Long located) = located.0

-- the records that are stored
abbrev pub form_records : Form → List ℕ
form_records (form.Short bytes numbers text records) = take numbers records
form_records (form.Long located) = located.1

-- no more is counted than there is room for, and each number is one of a record
abbrev pub IsForm : Form → Type 0
IsForm (form.Short bytes numbers text records) = (bytes ≤ 13) × (numbers ≤ 2) × All IsLookback (take numbers records)
IsForm (form.Long located) = Unit {0}
