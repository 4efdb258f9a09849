-- Column letters: the letters of the strings that are in the columns of the preimages.
-- Source: this project's own.
use Rattle.std.specs.Prelude.{ℕ, Bool, true, false, List, [], ◌∷◌}
use Rattle.stab_gates.specs.declared.letter.Letter.{Letter}
use Rattle.stab_gates.specs.declared.letter.Letter.TheVariants.{I, X, Y, Z}
use Rattle.stab_gates.specs.Letters.{letters_anticommute}
use Rattle.stab_tableau.specs.inner.InverseRows.{InverseRows}
use Rattle.stab_tableau.specs.Gates.{letter_at}

-- the letter that anticommutes with X, and with Z, just if the bits say so
abbrev pub letter_anticommuting : Bool → Bool → Letter
letter_anticommuting false false = I
letter_anticommuting false true = X
letter_anticommuting true true = Y
letter_anticommuting true false = Z

-- the letters of the string whose preimage has a letter at position k and I elsewhere: it anticommutes with X or Z on a
-- qubit where their preimages anticommute with that letter
abbrev pub column : Letter → ℕ → List InverseRows → List Letter
column l k [] = []
column l k (r ∷ rows) = letter_anticommuting (letters_anticommute l (letter_at r.x.letters k)) (letters_anticommute l (letter_at r.z.letters k)) ∷ column l k rows
