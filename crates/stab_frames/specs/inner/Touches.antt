-- Touches: whether a frame has letters where a step looks at it.
-- Source: this project's own.
use Rattle.std.specs.Prelude.{ℕ, ◌<◌, Bool, true, false, ◌||◌, List}
use Rattle.stab_gates.specs.declared.letter.Letter.{Letter}
use Rattle.stab_gates.specs.declared.letter.Letter.TheVariants.{I, X, Y, Z}
use Rattle.stab_gates.specs.Letters.{letters_anticommute}
use Rattle.stab_tableau.specs.Gates.{letter_at}
use Rattle.stab_instructions.specs.declared.control.ControlledPair.{ControlledPair}
use Rattle.stab_instructions.specs.declared.control.ControlledPair.TheVariants as pair
use Rattle.stab_instructions.specs.declared.range.MeasureTarget.{MeasureTarget}

-- whether a letter is other than I
abbrev pub acts : Letter → Bool
acts I = false
acts X = true
acts Y = true
acts Z = true

-- a pair that no record controls is of two of n qubits
abbrev pub PairFits : ℕ → ControlledPair → Type 0
PairFits n (pair.Qubits p) = (p.0 < n) × (p.1 < n)
PairFits n (pair.Record k q) = Unit {0}

-- whether letters act on a qubit of a pair, or a record controls it
abbrev pub touches_pair : List Letter → ControlledPair → Bool
touches_pair letters (pair.Qubits p) = acts (letter_at letters p.0) || acts (letter_at letters p.1)
touches_pair letters (pair.Record k q) = true

-- whether letters anticommute with a letter at the qubit of a target
abbrev pub touches_target : List Letter → Letter → MeasureTarget → Bool
touches_target letters l t = letters_anticommute (letter_at letters t.qubit) l
