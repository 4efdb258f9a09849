-- Several signed Pauli strings of one length, side by side.
-- Source: the rows of a tableau in Aaronson and Gottesman 2004, section III, of any number and in any relation.
use Rattle.std.specs.Prelude.{ℕ, ◌≡◌, ◌<◌, Bool, true, false, List, length, map, slice_index_or, slice_set}
use Rattle.stab_gates.specs.declared.letter.Letter.{Letter}
use Rattle.stab_gates.specs.declared.phase.Phase.TheVariants.{Quarter}
use Rattle.stab_gates.specs.Phases.{phase_add, sign_of_phase}
use Rattle.stab_pauli.specs.Paulis.{Signed, identity, product_phase, string_product}

-- signed strings of one length
pub record Rows : Type 0 where
  pub qubits : ℕ
  pub rows : List Signed

-- one of them
abbrev pub row_at : Rows → ℕ → Signed
row_at r a = slice_index_or r.rows a (identity r.qubits)

-- another string instead of one
abbrev pub with_row : Rows → ℕ → Signed → Rows
with_row r a p = record { qubits = r.qubits; rows = slice_set r.rows a p }

-- another letter at a qubit
abbrev pub with_letter : ℕ → Letter → Signed → Signed
with_letter qubit letter p = record { negative = p.negative; letters = slice_set p.letters qubit letter }

-- each has a letter for each qubit
abbrev pub AreOver : Rows → Type 0
AreOver r = (a : ℕ) → a < length r.rows → length (row_at r a).letters ≡ r.qubits

-- two that were exchanged
abbrev pub swapped_rows : Rows → ℕ → ℕ → Rows
swapped_rows r a b = with_row (with_row r a (row_at r b)) b (row_at r a)

-- the letters without the signs
abbrev pub unsigned_rows : Rows → List (List Letter)
unsigned_rows r = map (λ p. p.letters) r.rows

-- i times the product of two strings that anticommute
abbrev pub product_times_i : Signed → Signed → Signed
product_times_i p q = record { negative = sign_of_phase (phase_add Quarter (product_phase p q)); letters = string_product p.letters q.letters }

-- the same if the bit says so, and else the first string
abbrev pub product_times_i_if : Bool → Signed → Signed → Signed
product_times_i_if false p q = p
product_times_i_if true p q = product_times_i p q
