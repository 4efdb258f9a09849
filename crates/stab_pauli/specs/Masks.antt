-- Masks: words whose bits choose among rows that lie one after another.
-- Source: this project's own.
use Rattle.std.specs.Prelude.{◌≡◌, ℕ, Bool, true, false, ◌+◌, ◌*◌, ◌<◌, ◌≤◌, ◌⊎◌, List, eqb, length, slice_index_or}
use Rattle.std.specs.Int.{bit_at}
use Rattle.stab_gates.specs.declared.letter.Letter.{Letter}
use Rattle.stab_gates.specs.declared.letter.Letter.TheVariants.{I}
use Rattle.stab_pauli.specs.Paulis.{Signed}
use Rattle.stab_pauli.specs.Rows.{Rows, row_at}

-- whether a mask chooses row k
abbrev pub chooses : ℕ → ℕ → Bool
chooses mask k = eqb (bit_at mask k) 1

-- the 64 rows from one on are each made what their bit of a mask says, and all others stay
pub record AreChosen (first mask : ℕ) (change : Bool → Signed → Signed) (old new : Rows) : Type 0 where
  pub qubits : new.qubits ≡ old.qubits
  pub size : length new.rows ≡ length old.rows
  pub within : (k : ℕ) → k < 64 → row_at new (first + k) ≡ change (chooses mask k) (row_at old (first + k))
  pub others : (a : ℕ) → (a < first) ⊎ (first + 64 ≤ a) → row_at new a ≡ row_at old a

-- a mask chooses blocks of 256 letters of a string, bit b those from 256 * b on, and in all others each letter is I
pub record CoversSupport (mask : ℕ) (letters : List Letter) : Type 0 where
  pub in_range : (b : ℕ) → b < 64 → chooses mask b ≡ true → 256 * b < length letters
  pub blank : (b k : ℕ) → b < 64 → chooses mask b ≡ false → k < 256 → slice_index_or letters (256 * b + k) I ≡ I
