-- Reduced rows: the one list of members of a group that eliminates each of its leads.
-- Source: Gottesman 1997 brings generators to a standard form by elimination, and exchanges qubits on the way; here none are,
-- so that a group has one list of rows.
use Rattle.std.specs.Prelude.{◌≡◌, ◌≢◌, ℕ, suc, ◌+◌, ◌-◌, ◌<◌, ◌≤◌, Bool, true, false, nat_lt, List, [], ◌∷◌, length, ◌↔◌, if◌then◌else◌}
use Rattle.stab_gates.specs.declared.letter.Letter.{Letter}
use Rattle.stab_gates.specs.declared.letter.Letter.TheVariants.{X, Z}
use Rattle.stab_gates.specs.Letters.{letters_anticommute}
use Rattle.stab_pauli.specs.Paulis.{Signed}
use Rattle.stab_tableau.specs.Gates.{letter_at}
use Rattle.stab_tableau.specs.Traces.{Event, member, Fits, IsSound}
use Rattle.stab_tableau.specs.Groups.{IsStabiliserGroup, SameGroup}

-- the bits of a string of n letters: x_0 .. x_(n-1), of X and Y, which anticommute with Z, then z_0 .. z_(n-1), of Z and Y
abbrev pub bit_at : ℕ → List Letter → ℕ → Bool
bit_at n p k = if nat_lt k n then letters_anticommute Z (letter_at p k) else letters_anticommute X (letter_at p (k - n))

-- the first 1 of a string is at position k
abbrev pub IsFirst : ℕ → List Letter → ℕ → Type 0
IsFirst n p k = (k < n + n) × (bit_at n p k ≡ true) × ((j : ℕ) → j < k → bit_at n p j ≡ false)

-- a lead of a group: the position of the first 1 of some member
abbrev pub IsLead : ℕ → (Signed → Bool) → ℕ → Type 0
IsLead n member k = (p : Signed) × (length p.letters ≡ n) × (member p ≡ true) × IsFirst n p.letters k

-- the member whose first 1 is at lead k, and which has 0 at every other lead
pub record IsRowAt (n : ℕ) (member : Signed → Bool) (k : ℕ) (p : Signed) : Type 0 where
  pub size : length p.letters ≡ n
  pub passes : member p ≡ true
  pub first : IsFirst n p.letters k
  pub others : (l : ℕ) → IsLead n member l → l ≢ k → bit_at n p.letters l ≡ false

-- the rows at the leads from a position on, by ascending lead
abbrev pub AreRowsFrom : ℕ → (Signed → Bool) → ℕ → List Signed → Type 0
AreRowsFrom n member low [] = (k : ℕ) → low ≤ k → IsLead n member k → ⊥
AreRowsFrom n member low (p ∷ rows) =
    (k : ℕ) × (low ≤ k) × ((j : ℕ) → low ≤ j → j < k → IsLead n member j → ⊥) × IsRowAt n member k p × AreRowsFrom n member (suc k) rows

-- the reduced rows of a group: one at each lead, by ascending lead
abbrev pub AreReduced : ℕ → (Signed → Bool) → List Signed → Type 0
AreReduced n member rows = AreRowsFrom n member 0 rows

-- a stabiliser group has at most one list of reduced rows
abbrev pub ReducedRowsAreOne : Type 0
ReducedRowsAreOne =
    (n : ℕ) (member : Signed → Bool) → IsStabiliserGroup n member → (a b : List Signed) →
    AreReduced n member a → AreReduced n member b → a ≡ b

-- so has the group of a sound trace
abbrev pub TracesHaveOneList : Type 0
TracesHaveOneList =
    (n : ℕ) (trace : List Event) → Fits n trace → IsSound trace → (a b : List Signed) →
    AreReduced n (member trace) a → AreReduced n (member trace) b → a ≡ b

-- a stabiliser group has a list of reduced rows
abbrev pub GroupsHaveReducedRows : Type 0
GroupsHaveReducedRows = (n : ℕ) (member : Signed → Bool) → IsStabiliserGroup n member → (rows : List Signed) × AreReduced n member rows

-- so has the group of a sound trace
abbrev pub TracesHaveReducedRows : Type 0
TracesHaveReducedRows = (n : ℕ) (trace : List Event) → Fits n trace → IsSound trace → (rows : List Signed) × AreReduced n (member trace) rows

-- two stabiliser groups are one if and only if their reduced rows are the same
abbrev pub SameGroupSameRows : Type 0
SameGroupSameRows =
    (n : ℕ) (s t : Signed → Bool) → IsStabiliserGroup n s → IsStabiliserGroup n t → (a b : List Signed) →
    AreReduced n s a → AreReduced n t b → SameGroup n s t ↔ (a ≡ b)
