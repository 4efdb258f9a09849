-- From what the program writes and asks of rows to the groups of two states.
use Rattle.stab_tableau.proofs.Names.{◌≡◌, ◌↔◌, ℕ, ◌<◌, ◌≤◌, Bool, true, false, refl, sym, ◌∙◌, arith, ap, subst, List, length, Z, Signed, with_sign, Phased, phased, InverseRows, string_preimage, extend, IsTableau, column, TableauState, stabilises, stabiliser_of, IsStabiliserGroup, SameGroup, Rows, row_at, AreReduced, IsBasis}
use Rattle.stab_tableau.proofs.BasisLemmas.{stabilisers-basis}
use Rattle.stab_tableau.proofs.TableauColumnLemmas.{stabiliser-size, stabiliser-is}
use Rattle.stab_tableau.proofs.GeneratedLemmas.{stabiliser-length, stabiliser-member}
use Rattle.stab_tableau.proofs.SameGroupLemmas.{same-group}

-- the state of rows
abbrev pub state_of : List InverseRows → TableauState
state_of rows = record { qubits = length rows; rows = rows }

-- a stabiliser as the program writes it

module _ (rows : List InverseRows) (scratch : InverseRows) (is : IsTableau (length rows) rows scratch) (k : ℕ) (lt : k < length rows)
    (s x : Signed) (s_is : s ≡ record { negative = false; letters = column Z k rows })
    (sent : phased x ≡ extend (string_preimage (length rows) rows) (phased s)) where
  pub written-size : length s.letters ≡ length rows
  written-size = stabiliser-size rows scratch is (state_of rows) refl k lt s x s_is sent

  pub written-is : with_sign x.negative s ≡ stabiliser_of (state_of rows) k
  written-is = stabiliser-is rows scratch is (state_of rows) refl k lt s x s_is sent

  pub written-tableau : (m : Signed) → m ≡ with_sign x.negative s → IsTableau (length rows) rows (record { x = x; z = m })
  written-tableau m e = record {
    table = is.table;
    onto = is.onto;
    size = record {
      x = ap (λ (a : Phased). length a.letters) sent ∙ is.table.keeps.size s.letters written-size;
      z = ap (λ (s : Signed). length s.letters) e ∙ written-size;
    };
  }

-- whether all stabilisers of one state stabilise another

module _ (rows : List InverseRows) (scratch : InverseRows) (is : IsTableau (length rows) rows scratch)
    (u : TableauState) (g : IsStabiliserGroup u.qubits (stabilises u)) (same : u.qubits ≡ length rows) where
  pub determines-yes : (k : ℕ) → length rows ≤ k → ((j : ℕ) → j < k → stabilises u (stabiliser_of (state_of rows) j) ≡ true)
      → SameGroup (length rows) (stabilises (state_of rows)) (stabilises u)
  determines-yes k le has =
      same-group (state_of rows) is.table is.onto (stabilises u) (subst (λ n. IsStabiliserGroup n (stabilises u)) same g) (λ j lt. has j (omega arith))

  pub determines-no : (k : ℕ) → k < length rows → (stabilises u (stabiliser_of (state_of rows) k) ≡ true → ⊥)
      → SameGroup (length rows) (stabilises (state_of rows)) (stabilises u) → ⊥
  determines-no k lt absent agree =
      absent (sym (agree (stabiliser_of (state_of rows) k) (stabiliser-length (state_of rows) is.table is.onto k lt))
      ∙ stabiliser-member (state_of rows) is.table is.onto k lt)

-- an answer about rows is one about the states that contracts see

module _ (b : Bool) (rows : List InverseRows) (t : TableauState) (view : state_of rows ≡ t) where
  pub answer-viewed : (u : TableauState) → (b ≡ true) ↔ SameGroup (length rows) (stabilises (state_of rows)) (stabilises u)
      → (b ≡ true) ↔ SameGroup t.qubits (stabilises t) (stabilises u)
  answer-viewed u a = subst (λ (t : TableauState). (b ≡ true) ↔ SameGroup t.qubits (stabilises t) (stabilises u)) view a

  pub answer-both_viewed : (others : List InverseRows) (u : TableauState) → state_of others ≡ u → u.qubits ≡ t.qubits
      → (b ≡ true) ↔ SameGroup (length rows) (stabilises (state_of rows)) (stabilises (record { qubits = length rows; rows = others }))
      → (b ≡ true) ↔ SameGroup t.qubits (stabilises t) (stabilises u)
  answer-both_viewed others u other_view same a =
      answer-viewed u (subst (λ u. (b ≡ true) ↔ SameGroup (length rows) (stabilises (state_of rows)) (stabilises u)) other a)
    where
      count : length rows ≡ length others
      count = ap (λ (t : TableauState). t.qubits) view ∙ sym same ∙ sym (ap (λ (t : TableauState). t.qubits) other_view)

      other : ◌≡◌ {A = TableauState} (record { qubits = length rows; rows = others }) u
      other = (λ i. record { qubits = count i; rows = others }) ∙ other_view

-- the stabilisers, which generate the group of the state

module _ (rows : List InverseRows) (scratch : InverseRows) (is : IsTableau (length rows) rows scratch) (t : TableauState) (view : state_of rows ≡ t)
    (r : Rows) (same : r.qubits ≡ length rows) (number : length r.rows ≡ length rows)
    (strings : (k : ℕ) → k < length rows → row_at r k ≡ stabiliser_of (state_of rows) k) where
  pub state-basis : IsBasis (stabilises t) r
  state-basis = subst (λ (t : TableauState). IsBasis (stabilises t) r) view (stabilisers-basis (state_of rows) is.table is.onto r same number strings)

  pub qubits-same : r.qubits ≡ t.qubits
  qubits-same = same ∙ ap (λ (t : TableauState). t.qubits) view

  pub number-same : length r.rows ≡ t.qubits
  number-same = number ∙ ap (λ (t : TableauState). t.qubits) view

  pub group-same : IsStabiliserGroup t.qubits (stabilises t) → IsStabiliserGroup r.qubits (stabilises t)
  group-same g = subst (λ n. IsStabiliserGroup n (stabilises t)) (sym qubits-same) g

  pub given-basis : IsStabiliserGroup t.qubits (stabilises t) → (member : Signed → Bool) × IsStabiliserGroup r.qubits member × IsBasis member r
  given-basis g = (stabilises t, group-same g, state-basis)

  -- what the elimination of these strings yields is the reduced rows of the state
  pub state-reduced : IsStabiliserGroup t.qubits (stabilises t) → (out : List Signed)
      → ((member : Signed → Bool) → IsStabiliserGroup r.qubits member → IsBasis member r → AreReduced r.qubits member out)
      → AreReduced t.qubits (stabilises t) out
  state-reduced g out all = subst (λ n. AreReduced n (stabilises t) out) qubits-same (all (stabilises t) (group-same g) state-basis)
