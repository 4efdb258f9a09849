-- Printed letters: one character each, `_` for the identity.
-- Source: Stim prints a letter of a Pauli string so.
use Rattle.std.specs.Prelude.{ℕ, List, codes}
use Rattle.stab_gates.specs.declared.letter.Letter.{Letter}
use Rattle.stab_gates.specs.declared.letter.Letter.TheVariants.{I, X, Y, Z}

-- how a letter is printed
abbrev pub letter_text : Letter → List ℕ
letter_text I = codes "_"
letter_text X = codes "X"
letter_text Y = codes "Y"
letter_text Z = codes "Z"
