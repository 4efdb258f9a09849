-- Inverse rows: the strings that all that happened made into X and Z on each qubit, which are the rows of the inverse,
-- or the preimages of both; and those that it made into any string by way of them.
-- Source: Gottesman, The Heisenberg representation of quantum computers, of the circuit backwards.
use Rattle.std.specs.Prelude.{◌≡◌, ℕ, ◌<◌, true, false, List, [], ◌∷◌, length, replicate, slice_index_or, slice_set}
use Rattle.stab_gates.specs.declared.letter.Letter.{Letter}
use Rattle.stab_gates.specs.declared.letter.Letter.TheVariants.{I, X, Y, Z}
use Rattle.stab_gates.specs.declared.phase.Phase.TheVariants.{Quarter}
use Rattle.stab_gates.specs.Phases.{phase_of_sign}
use Rattle.stab_pauli.specs.Paulis.{Signed, identity, single, anticommute}
use Rattle.stab_pauli.specs.Phaseds.{Phased, plain, phased, times_phase, phased_product}
use Rattle.stab_gates.specs.declared.gate.Gate.{Gate}
use Rattle.stab_gates.specs.declared.gate.PairGate.{PairGate}
use Rattle.stab_tableau.specs.declared.images.SignedLetter.{SignedLetter}
use Rattle.stab_tableau.specs.Gates.{letter_image, inverse, letter_at, pair_letters}

-- what was made into X and what into Z on one qubit by all that happened
pub record InverseRows : Type 0 where
  pub x : Signed
  pub z : Signed

-- n letters I
abbrev pub blank : ℕ → List Letter
blank n = replicate n I

-- one letter at a qubit, I elsewhere
abbrev pub one_letter : ℕ → ℕ → Letter → List Letter
one_letter n qubit letter = slice_set (blank n) qubit letter

-- the rows of a qubit: the preimages of X and Z on it; past the last qubit of no letters
abbrev pub rows_at : List InverseRows → ℕ → InverseRows
rows_at rows q = slice_index_or rows q (record { x = identity 0; z = identity 0 })

-- the preimages of X and Z on a qubit in the state of all zeros: the letters themselves
abbrev pub zeros_row : ℕ → ℕ → InverseRows
zeros_row n qubit = record { x = single n qubit X; z = single n qubit Z }

-- the preimage of a letter on a qubit, over n positions; Y is i times X times Z
abbrev pub letter_preimage : ℕ → InverseRows → Letter → Phased
letter_preimage n r I = plain (blank n)
letter_preimage n r X = phased r.x
letter_preimage n r Y = times_phase Quarter (phased_product (phased r.x) (phased r.z))
letter_preimage n r Z = phased r.z

-- the preimage of a string of letters: the product of those of its letters
abbrev pub string_preimage : ℕ → List InverseRows → List Letter → Phased
string_preimage n [] p = plain (blank n)
string_preimage n (r ∷ rows) [] = plain (blank n)
string_preimage n (r ∷ rows) (l ∷ p) = phased_product (letter_preimage n r l) (string_preimage n rows p)

-- a map of strings of letters, carried over to strings with a power of i
abbrev pub extend : (List Letter → Phased) → Phased → Phased
extend h p = times_phase p.phase (h p.letters)

-- a map from strings over n positions to strings over m that keeps products
pub record IsHomomorphism (n m : ℕ) (h : List Letter → Phased) : Type 0 where
  pub unit : h (blank n) ≡ plain (blank m)
  pub product : (p q : List Letter) → length p ≡ n → length q ≡ n
      → extend h (phased_product (plain p) (plain q)) ≡ phased_product (h p) (h q)
  pub size : (p : List Letter) → length p ≡ n → length (h p).letters ≡ m

-- both preimages have n letters
pub record IsOver (n : ℕ) (r : InverseRows) : Type 0 where
  pub x : length r.x.letters ≡ n
  pub z : length r.z.letters ≡ n

-- the rows of a table for one qubit: over n positions, and they anticommute
pub record IsInverseRow (n : ℕ) (r : InverseRows) : Type 0 where
  pub over : IsOver n r
  pub opposed : anticommute r.x r.z ≡ true

-- the rows of a table for two qubits: those of one commute with those of the other
pub record AreRows (n : ℕ) (r s : InverseRows) : Type 0 where
  pub first : IsInverseRow n r
  pub second : IsInverseRow n s
  pub xx : anticommute r.x s.x ≡ false
  pub xz : anticommute r.x s.z ≡ false
  pub zx : anticommute r.z s.x ≡ false
  pub zz : anticommute r.z s.z ≡ false

-- n rows over n positions by which preimages keep products
pub record IsInverseTable (n : ℕ) (rows : List InverseRows) : Type 0 where
  pub count : length rows ≡ n
  pub sizes : (q : ℕ) → q < n → IsOver n (rows_at rows q)
  pub keeps : IsHomomorphism n n (string_preimage n rows)

-- each string is the preimage of some string
abbrev pub IsOnto : ℕ → List InverseRows → Type 0
IsOnto n rows = (p : List Letter) → length p ≡ n → (q : Phased) × (length q.letters ≡ n) × (extend (string_preimage n rows) q ≡ plain p)

-- the preimage of a letter with a sign
abbrev pub signed_preimage : ℕ → InverseRows → SignedLetter → Phased
signed_preimage n r l = times_phase (phase_of_sign l.negative) (letter_preimage n r l.letter)

-- a qubit's rows after a gate on it: the preimages of what was X and Z before the gate
pub record GateRow (n : ℕ) (g : Gate) (old new : InverseRows) : Type 0 where
  pub x : phased new.x ≡ signed_preimage n old (letter_image (inverse g) X)
  pub z : phased new.z ≡ signed_preimage n old (letter_image (inverse g) Z)

-- the preimage of two letters with a power of i, the first on one qubit and the second on another
abbrev pub pair_preimage : ℕ → InverseRows → InverseRows → Phased → Phased
pair_preimage n r s w = times_phase w.phase (phased_product (letter_preimage n r (letter_at w.letters 0)) (letter_preimage n s (letter_at w.letters 1)))

-- the rows of two qubits after a gate on them
pub record PairRows (n : ℕ) (g : PairGate) (first second new_first new_second : InverseRows) : Type 0 where
  pub first_x : phased new_first.x ≡ pair_preimage n first second (pair_letters g X I)
  pub first_z : phased new_first.z ≡ pair_preimage n first second (pair_letters g Z I)
  pub second_x : phased new_second.x ≡ pair_preimage n first second (pair_letters g I X)
  pub second_z : phased new_second.z ≡ pair_preimage n first second (pair_letters g I Z)
