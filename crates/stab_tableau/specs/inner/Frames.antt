-- Frames: where the signs of the rows of two tables with the same letters differ.
-- Source: this project's own.
use Rattle.std.specs.Prelude.{◌≡◌, List, [], ◌∷◌}
use Rattle.stab_gates.specs.declared.letter.Letter.{Letter}
use Rattle.stab_gates.specs.declared.letter.Letter.TheVariants.{X, Z}
use Rattle.stab_gates.specs.Letters.{◌⊕◌, letters_anticommute}
use Rattle.stab_pauli.specs.Paulis.{with_sign}
use Rattle.stab_tableau.specs.inner.InverseRows.{InverseRows}
use Rattle.stab_tableau.specs.inner.ColumnLetters.{letter_anticommuting}

-- the rows of two tables differ in their signs alone
abbrev pub SameLetters : List InverseRows → List InverseRows → Type 0
SameLetters [] [] = Unit {0}
SameLetters [] (s ∷ others) = ⊥
SameLetters (r ∷ rows) [] = ⊥
SameLetters (r ∷ rows) (s ∷ others) = (r.x.letters ≡ s.x.letters) × (r.z.letters ≡ s.z.letters) × SameLetters rows others

-- a qubit's rows with the signs of those flipped that a letter on it anticommutes with
abbrev pub conjugated_row : Letter → InverseRows → InverseRows
conjugated_row l r = record { x = with_sign (letters_anticommute l X) r.x; z = with_sign (letters_anticommute l Z) r.z }

-- the letter that anticommutes with X if the signs of the preimages of X differ, and with Z if those of Z do
abbrev pub frame_letter : InverseRows → InverseRows → Letter
frame_letter r s = letter_anticommuting (r.x.negative ⊕ s.x.negative) (r.z.negative ⊕ s.z.negative)

-- the string of these letters: the two states differ by it
abbrev pub sign_frame : List InverseRows → List InverseRows → List Letter
sign_frame [] others = []
sign_frame (r ∷ rows) [] = []
sign_frame (r ∷ rows) (s ∷ others) = frame_letter r s ∷ sign_frame rows others
