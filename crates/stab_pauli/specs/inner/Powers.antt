-- Strings as a power of i before their X bits and then their Z bits: the letter Y is i times X times Z.
-- Source: this project's own. Aaronson and Gottesman 2004, section III, keep a sign bit, and count the powers of i of a product
-- letter by letter.
use Rattle.std.specs.Prelude.{◌≡◌, Bool, true, false, List, [], ◌∷◌}
use Rattle.stab_gates.specs.declared.letter.Letter.{Letter}
use Rattle.stab_gates.specs.declared.letter.Letter.TheVariants.{I, X, Y, Z}
use Rattle.stab_gates.specs.declared.phase.Phase.{Phase}
use Rattle.stab_gates.specs.declared.phase.Phase.TheVariants.{Zero}
use Rattle.stab_gates.specs.Phases.{phase_add, phase_inverse, phase_of_sign, is_even}
use Rattle.stab_gates.specs.Letters.{◌⊕◌, letter_power}
use Rattle.stab_pauli.specs.Paulis.{Signed}

-- the power of i of all letters of a string before its X bits and then its Z bits
abbrev pub string_power : List Letter → Phase
string_power [] = Zero
string_power (x ∷ p) = phase_add (letter_power x) (string_power p)

-- whether the Z bit of one letter meets the X bit of the next, so that their order gives a sign: ZX is -XZ
abbrev pub letters_meet : Letter → Letter → Bool
letters_meet I b = false
letters_meet X b = false
letters_meet Y I = false
letters_meet Y X = true
letters_meet Y Y = true
letters_meet Y Z = false
letters_meet Z I = false
letters_meet Z X = true
letters_meet Z Y = true
letters_meet Z Z = false

-- whether that is so at an odd number of positions of two strings
abbrev pub strings_meet : List Letter → List Letter → Bool
strings_meet [] q = false
strings_meet (x ∷ p) [] = false
strings_meet (x ∷ p) (y ∷ q) = letters_meet x y ⊕ strings_meet p q

-- what is left of the power of i before the bits of a string when its letters have taken theirs: its sign
abbrev pub sign_power : Phase → List Letter → Phase
sign_power power letters = phase_add (phase_inverse (string_power letters)) power

-- what is left is a sign
abbrev pub IsSign : Phase → Type 0
IsSign t = is_even t ≡ true

-- the power of i before the bits of a signed string
abbrev pub power_of : Signed → Phase
power_of p = phase_add (phase_of_sign p.negative) (string_power p.letters)
