-- Eliminations: rows that generate a group, and how far an elimination of them has come.
-- Source: this project's own; the elimination is Gauss's, of the bits x and then z.
use Rattle.std.specs.Prelude.{◌≡◌, ◌≢◌, ℕ, ◌+◌, ◌<◌, ◌≤◌, Bool, true, false, List, length, eqb, if◌then◌else◌}
use Rattle.stab_gates.specs.declared.letter.Letter.{Letter}
use Rattle.stab_gates.specs.Letters.{◌⊕◌}
use Rattle.stab_pauli.specs.Paulis.{Signed, product, string_product}
use Rattle.stab_pauli.specs.Rows.{Rows, row_at, AreOver}
use Rattle.stab_tableau.specs.Groups.{IsStabiliserGroup}
use Rattle.stab_tableau.specs.Reduced.{bit_at, IsFirst}

-- a test of strings that adds up over products, as each bit does, and anticommuting with a fixed string
abbrev pub IsLinear : (List Letter → Bool) → Type 0
IsLinear f = (p q : List Letter) → f (string_product p q) ≡ f p ⊕ f q

-- rows that generate a group, up to signs, and are independent: a linear test that is 0 on all rows is 0 on all members,
-- and for any bits some linear test has them on the rows
pub record IsBasis (member : Signed → Bool) (r : Rows) : Type 0 where
  pub over : AreOver r
  pub passes : (a : ℕ) → a < length r.rows → member (row_at r a) ≡ true
  pub spans : (f : List Letter → Bool) → IsLinear f → ((a : ℕ) → a < length r.rows → f (row_at r a).letters ≡ false)
      → (p : Signed) → length p.letters ≡ r.qubits → member p ≡ true → f p.letters ≡ false
  pub independent : (v : ℕ → Bool) → (f : List Letter → Bool) × IsLinear f × ((a : ℕ) → a < length r.rows → f (row_at r a).letters ≡ v a)

-- an elimination that has come to position k: the first rows have their leads before k, where all other rows have 0, and the
-- rows that are left have 0 at all positions before k
pub record HasCome (member : Signed → Bool) (k used : ℕ) (r : Rows) : Type 0 where
  pub basis : IsBasis member r
  pub few : used ≤ length r.rows
  pub lead : ℕ → ℕ
  pub first : (a : ℕ) → a < used → IsFirst r.qubits (row_at r a).letters (lead a)
  pub before : (a : ℕ) → a < used → lead a < k
  pub ascend : (a b : ℕ) → a < b → b < used → lead a < lead b
  pub clear : (a b : ℕ) → a < used → b < used → b ≢ a → bit_at r.qubits (row_at r b).letters (lead a) ≡ false
  pub zeros : (b : ℕ) → used ≤ b → b < length r.rows → (j : ℕ) → j < k → bit_at r.qubits (row_at r b).letters j ≡ false

-- rows that generate a stabiliser group, of which an elimination has come to position k
abbrev pub ComesTo : ℕ → ℕ → Rows → Type 0
ComesTo k used r = (member : Signed → Bool) × IsStabiliserGroup r.qubits member × HasCome member k used r

-- the number of the row at a position after two rows were exchanged
abbrev pub exchanged : ℕ → ℕ → ℕ → ℕ
exchanged a b c = if eqb c a then b else (if eqb c b then a else c)

-- two rows were exchanged
pub record AreExchanged (a b : ℕ) (old new : Rows) : Type 0 where
  pub qubits : new.qubits ≡ old.qubits
  pub count : length new.rows ≡ length old.rows
  pub rows : (c : ℕ) → c < length old.rows → row_at new c ≡ row_at old (exchanged a b c)

-- a string without its 1 at a position: if it has one, its product with the leading one
abbrev pub cleared_with : ℕ → ℕ → Signed → Signed → Signed
cleared_with n k leading p = if bit_at n p.letters k then product p leading else p

-- all rows but the leading one are cleared by it at a position
pub record AreCleared (leading k : ℕ) (old new : Rows) : Type 0 where
  pub qubits : new.qubits ≡ old.qubits
  pub count : length new.rows ≡ length old.rows
  pub preserved : row_at new leading ≡ row_at old leading
  pub others : (c : ℕ) → c < length old.rows → c ≢ leading → row_at new c ≡ cleared_with old.qubits k (row_at old leading) (row_at old c)

-- a step of an elimination from position k on
pub record HasStepped (k used now : ℕ) (old new : Rows) : Type 0 where
  pub qubits : new.qubits ≡ old.qubits
  pub count : length new.rows ≡ length old.rows
  pub comes : (member : Signed → Bool) → IsStabiliserGroup old.qubits member → HasCome member k used old → HasCome member (k + 1) now new
