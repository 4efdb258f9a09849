-- Pairs: strings that lie two by two, the preimages of X and Z on one qubit after another.
-- Source: this project's own.
use Rattle.std.specs.Prelude.{◌≡◌, ℕ, Bool, ◌*◌, ◌+◌, ◌<◌, ◌≤◌, ◌⊎◌, List, [], ◌∷◌, length, slice_set}
use Rattle.stab_pauli.specs.Paulis.{Signed}
use Rattle.stab_pauli.specs.Phaseds.{phased}
use Rattle.stab_gates.specs.declared.letter.Letter.{Letter}
use Rattle.stab_gates.specs.declared.letter.Letter.TheVariants.{X, Z}
use Rattle.stab_pauli.specs.Rows.{Rows}
use Rattle.stab_pauli.specs.Masks.{chooses}
use Rattle.stab_tableau.specs.declared.table.InverseRow.{InverseRow}
use Rattle.stab_tableau.specs.declared.table.InverseRow.TheVariants.{OfX, OfZ}
use Rattle.stab_gates.specs.declared.gate.Gate.{Gate}
use Rattle.stab_gates.specs.declared.gate.PairGate.{PairGate}
use Rattle.stab_gates.specs.Limits.{most_qubits}
use Rattle.stab_tableau.specs.inner.InverseRows.{InverseRows, rows_at, letter_preimage, GateRow, PairRows}

-- strings taken two by two; a last one alone is left out
abbrev pub paired_strings : List Signed → List InverseRows
paired_strings [] = []
paired_strings (x ∷ []) = []
paired_strings (x ∷ z ∷ rows) = record { x = x; z = z } ∷ paired_strings rows

-- where the preimage of X or of Z on a qubit lies
abbrev pub row_position : InverseRow → ℕ → ℕ
row_position OfX q = 2 * q
row_position OfZ q = 2 * q + 1

-- the letter of which it is the preimage
abbrev pub row_letter : InverseRow → Letter
row_letter OfX = X
row_letter OfZ = Z

-- one of the two
abbrev pub row_string : InverseRow → InverseRows → Signed
row_string OfX r = r.x
row_string OfZ r = r.z

-- another string instead
abbrev pub with_string : InverseRow → Signed → InverseRows → InverseRows
with_string OfX p r = record { x = p; z = r.z }
with_string OfZ p r = record { x = r.x; z = p }

-- another string instead, on one qubit
abbrev pub put : InverseRow → ℕ → Signed → List InverseRows → List InverseRows
put w q p rows = slice_set rows q (with_string w p (rows_at rows q))

-- two strings that were exchanged
abbrev pub rows_exchanged : InverseRow → ℕ → InverseRow → ℕ → List InverseRows → List InverseRows
rows_exchanged v a w b rows = put w b (row_string v (rows_at rows a)) (put v a (row_string w (rows_at rows b)) rows)

-- two strings for each of at most 1,024 qubits
pub record IsPaired (r : Rows) : Type 0 where
  pub few : r.qubits ≤ most_qubits
  pub size : length r.rows ≡ 2 * r.qubits

-- the rows of the 32 qubits from one on are each made what their bit of a mask says, and all others stay
pub record ArePairsChosen (first mask : ℕ) (change : Bool → Signed → Signed) (old new : List InverseRows) : Type 0 where
  pub size : length new ≡ length old
  pub within : (w : InverseRow) (k : ℕ) → k < 32 → row_string w (rows_at new (first + k)) ≡ change (chooses mask (row_position w k)) (row_string w (rows_at old (first + k)))
  pub others : (q : ℕ) → (q < first) ⊎ (first + 32 ≤ q) → rows_at new q ≡ rows_at old q

-- a qubit's rows made the preimages of two letters there
pub record TakesLetters (x z : Letter) (q : ℕ) (old new : List InverseRows) : Type 0 where
  pub of_x : phased (rows_at new q).x ≡ letter_preimage (length old) (rows_at old q) x
  pub of_z : phased (rows_at new q).z ≡ letter_preimage (length old) (rows_at old q) z
  pub rest : new ≡ slice_set old q (rows_at new q)

-- rows after a gate on a qubit
pub record IsGated (g : Gate) (q : ℕ) (old new : List InverseRows) : Type 0 where
  pub row : GateRow (length old) g (rows_at old q) (rows_at new q)
  pub rest : new ≡ slice_set old q (rows_at new q)

-- rows after a gate on two qubits
pub record IsPairGated (g : PairGate) (a b : ℕ) (old new : List InverseRows) : Type 0 where
  pub rows : PairRows (length old) g (rows_at old a) (rows_at old b) (rows_at new a) (rows_at new b)
  pub rest : new ≡ slice_set (slice_set old a (rows_at new a)) b (rows_at new b)
