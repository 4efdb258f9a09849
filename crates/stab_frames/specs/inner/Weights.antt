-- Weights: on how many qubits a string acts.
-- Source: Gottesman 1997: the weight of a Pauli string.
use Rattle.std.specs.Prelude.{ℕ, ◌+◌, List, [], ◌∷◌}
use Rattle.stab_gates.specs.declared.letter.Letter.{Letter}
use Rattle.stab_gates.specs.declared.letter.Letter.TheVariants.{I, X, Y, Z}

-- 1 for a letter that is not I
abbrev pub letter_weight : Letter → ℕ
letter_weight I = 0
letter_weight X = 1
letter_weight Y = 1
letter_weight Z = 1

-- how many letters are not I
abbrev pub string_weight : List Letter → ℕ
string_weight [] = 0
string_weight (l ∷ letters) = letter_weight l + string_weight letters
