-- Exchanged outcomes: the stabiliser at a position where the preimage of what is measured has X or Y.
use Rattle.stab_tableau.proofs.Names.{◌≡◌, ℕ, ◌<◌, true, false, sym, ◌∙◌, ap, subst, List, length, Letter, Z, letters_anticommute, has_x, Signed, single, strings_anticommute, Phased, phased, letter_at, stabiliser_of, IsPivot, TableauState, stabilises, column, InverseRows, string_preimage, extend, IsInverseTable, IsOnto, IsTableau}
use Rattle.stab_tableau.proofs.HomomorphismLemmas.{preserved-anticommute}
use Rattle.stab_tableau.proofs.OneLetterLemmas.{one_letter-anticommute}
use Rattle.stab_tableau.proofs.ColumnLemmas.{column-preimage}
use Rattle.stab_tableau.proofs.GeneratedLemmas.{stabiliser-length, stabiliser-member}
use Rattle.stab_tableau.proofs.DiagonalLemmas.{x-with_Z}
use Rattle.stab_tableau.proofs.MeasureLemmas.{position-in}

-- a tableau's stabiliser number k exchanges the outcomes of a string whose preimage has X or Y at position k
pub column-exchanges : (t : TableauState) → IsInverseTable t.qubits t.rows → IsOnto t.qubits t.rows
    → (measured : Signed) → length measured.letters ≡ t.qubits → (k : ℕ) → k < t.qubits
    → letters_anticommute Z (letter_at (string_preimage t.qubits t.rows measured.letters).letters k) ≡ true
    → IsPivot t.qubits (stabilises t) measured (column Z k t.rows)
column-exchanges t is onto q lq k lt e = record {
  size = stabiliser-length t is onto k lt;
  negative = (stabiliser_of t k).negative;
  stabilises = stabiliser-member t is onto k lt;
  anticommutes =
      sym (preserved-anticommute t.qubits t.qubits (string_preimage t.qubits t.rows) is.keeps (column Z k t.rows) q.letters (stabiliser-length t is onto k lt) lq)
      ∙ ap (λ s. strings_anticommute s (string_preimage t.qubits t.rows q.letters).letters) (column-preimage t.qubits t.rows is onto Z k lt)
      ∙ one_letter-anticommute t.qubits k Z (string_preimage t.qubits t.rows q.letters).letters (is.keeps.size q.letters lq) lt
      ∙ e;
}

-- so does the stabiliser at a position where the preimage that was written has X or Y
pub position-exchanges : (n : ℕ) (rows : List InverseRows) (scratch : InverseRows) → IsTableau n rows scratch
    → (p : Signed) → length p.letters ≡ n → phased scratch.x ≡ extend (string_preimage n rows) (phased p)
    → (k : ℕ) → k < length scratch.x.letters → has_x (letter_at scratch.x.letters k) ≡ true
    → IsPivot n (stabilises (record { qubits = n; rows = rows })) p (column Z k rows)
position-exchanges n rows scratch is p lp sent k lt here =
    column-exchanges (record { qubits = n; rows = rows }) is.table is.onto p lp k (position-in n scratch.x is.size.x k lt here false)
    (ap (λ (a : Phased). letters_anticommute Z (letter_at a.letters k)) (sym sent) ∙ x-with_Z (letter_at scratch.x.letters k) ∙ here)

-- as contracts see the tableau
pub exchanges-seen : (rows : List InverseRows) (t : TableauState) → record { qubits = length rows; rows = rows } ≡ t → (p : Signed) (s : List Letter)
    → IsPivot (length rows) (stabilises (record { qubits = length rows; rows = rows })) p s → IsPivot t.qubits (stabilises t) p s
exchanges-seen rows t view p s is = let P : TableauState → Type 0 = λ t. IsPivot t.qubits (stabilises t) p s in subst P view is

-- of one letter on a qubit
pub letter-exchanges_seen : (rows : List InverseRows) (t : TableauState) → record { qubits = length rows; rows = rows } ≡ t → (q : ℕ) (l : Letter) (s : List Letter)
    → IsPivot (length rows) (stabilises (record { qubits = length rows; rows = rows })) (single (length rows) q l) s
    → IsPivot t.qubits (stabilises t) (single t.qubits q l) s
letter-exchanges_seen rows t view q l s is =
    let P : TableauState → Type 0 = λ t. IsPivot t.qubits (stabilises t) (single t.qubits q l) s in subst P view is
