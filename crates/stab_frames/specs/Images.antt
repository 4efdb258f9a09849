-- Images: the letters that a gate makes of X and of Z on its qubit, from which what it makes of every letter follows, up to signs.
-- Source: Gottesman, The Heisenberg representation of quantum computers: a gate is what it makes of X and Z on each qubit.
use Rattle.std.specs.Prelude.{Bool, true, false, not, ◌&&◌, Option, Some, None}
use Rattle.stab_gates.specs.declared.letter.Letter.{Letter}
use Rattle.stab_gates.specs.declared.letter.Letter.TheVariants.{I, X, Y, Z}
use Rattle.stab_gates.specs.Letters.{letters_anticommute}
use Rattle.stab_gates.specs.XParts.{has_x}
use Rattle.stab_gates.specs.declared.gate.PairGate.{PairGate}
use Rattle.stab_gates.specs.declared.gate.PairGate.TheVariants.{Cx, Cy, Cz, Swap}

-- whether a letter has both an X part and a Z part
abbrev pub has_both : Letter → Bool
has_both I = false
has_both X = false
has_both Y = true
has_both Z = false

-- whether X parts become Z parts, or Z parts X parts: the image of X has no X part, or that of Z no Z part
abbrev pub exchanges : (of_x of_z : Letter) → Bool
exchanges of_x of_z = not (has_x of_x && letters_anticommute X of_z)

-- the letter, or I if the bit is 0
abbrev pub letter_where : Bool → Letter → Letter
letter_where true l = l
letter_where false l = I

-- the letter that a gate on two qubits puts on the second, if the first has an X part; none if it exchanges the letters
abbrev pub controlled_letter : PairGate → Option Letter
controlled_letter Cx = Some X
controlled_letter Cy = Some Y
controlled_letter Cz = Some Z
controlled_letter Swap = None
