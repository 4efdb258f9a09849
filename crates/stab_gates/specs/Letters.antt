-- Letters: the product of two letters with its power of i, and which letters anticommute.
-- Source: Aaronson and Gottesman 2004, section II, the identities of the Pauli matrices.
use Rattle.std.specs.Prelude.{Bool, true, false, not}
use Rattle.stab_gates.specs.declared.letter.Letter.{Letter}
use Rattle.stab_gates.specs.declared.letter.Letter.TheVariants.{I, X, Y, Z}
use Rattle.stab_gates.specs.declared.phase.Phase.{Phase}
use Rattle.stab_gates.specs.declared.phase.Phase.TheVariants.{Zero, Quarter, ThreeQuarters}

infixl 32 ◌⊕◌
-- the parity of two bits
abbrev pub ◌⊕◌ : Bool → Bool → Bool
false ⊕ b = b
true ⊕ b = not b

-- the letter of a product of two letters: XY is Z, YZ is X, ZX is Y, and a letter with itself is I
abbrev pub letter_product : Letter → Letter → Letter
letter_product I b = b
letter_product X I = X
letter_product X X = I
letter_product X Y = Z
letter_product X Z = Y
letter_product Y I = Y
letter_product Y X = Z
letter_product Y Y = I
letter_product Y Z = X
letter_product Z I = Z
letter_product Z X = Y
letter_product Z Y = X
letter_product Z Z = I

-- the power of i of a product of two letters: i for XY, YZ and ZX, and -i in the other order
abbrev pub letter_phase : Letter → Letter → Phase
letter_phase I b = Zero
letter_phase X I = Zero
letter_phase X X = Zero
letter_phase X Y = Quarter
letter_phase X Z = ThreeQuarters
letter_phase Y I = Zero
letter_phase Y X = ThreeQuarters
letter_phase Y Y = Zero
letter_phase Y Z = Quarter
letter_phase Z I = Zero
letter_phase Z X = Quarter
letter_phase Z Y = ThreeQuarters
letter_phase Z Z = Zero

-- whether two letters anticommute: they differ, and neither is I
abbrev pub letters_anticommute : Letter → Letter → Bool
letters_anticommute I b = false
letters_anticommute X I = false
letters_anticommute X X = false
letters_anticommute X Y = true
letters_anticommute X Z = true
letters_anticommute Y I = false
letters_anticommute Y X = true
letters_anticommute Y Y = false
letters_anticommute Y Z = true
letters_anticommute Z I = false
letters_anticommute Z X = true
letters_anticommute Z Y = true
letters_anticommute Z Z = false

-- the power of i of a letter before its X bit and then its Z bit: Y is i times X times Z
abbrev pub letter_power : Letter → Phase
letter_power I = Zero
letter_power X = Zero
letter_power Y = Quarter
letter_power Z = Zero
