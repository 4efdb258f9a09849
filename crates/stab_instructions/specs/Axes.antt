-- Axes: the letters X, Y and Z, which are measured, reset, or applied by a control.
-- Source: the letters of Pauli names and targets in Stim's circuit file format, capitals or not.
use Rattle.std.specs.Prelude.{ℕ, ◌||◌, ◌==◌, if◌then◌else◌, List, [], ◌∷◌, Option, Some, None}
use Rattle.stab_gates.specs.declared.letter.Letter.{Letter}
use Rattle.stab_gates.specs.declared.letter.Letter.TheVariants as letter
use Rattle.stab_instructions.specs.declared.axis.Axis.{Axis}
use Rattle.stab_instructions.specs.declared.axis.Axis.TheVariants as axis

-- the letter of an axis
abbrev pub letter_of : Axis → Letter
letter_of axis.X = letter.X
letter_of axis.Y = letter.Y
letter_of axis.Z = letter.Z

-- the axis that a byte names, as a capital or not
abbrev pub axis_named : ℕ → Option Axis
axis_named b =
    if (b == 88) || (b == 120) then Some axis.X
    else if (b == 89) || (b == 121) then Some axis.Y
    else if (b == 90) || (b == 122) then Some axis.Z
    else None

-- the axis that the first byte names
abbrev pub first_axis : List ℕ → Option Axis
first_axis [] = None
first_axis (b ∷ bs) = axis_named b
