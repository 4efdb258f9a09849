-- Conjugated rows: a letter that is applied to a qubit flips signs of its rows, and what they stabilise is conjugated by it.
use Rattle.stab_tableau.proofs.Names.{◌≡◌, ℕ, zero, suc, ◌<◌, Bool, refl, sym, ◌∙◌, ap, subst, List, [], ◌∷◌, length, set, replicate, arith, length-set, Letter, I, X, Z, ◌⊕◌, letters_anticommute, single, with_sign, strings_anticommute, each_letter, parity-self, InverseRow, OfX, OfZ, TableauState, stabilises, IsConjugated, letter_anticommuting, InverseRows, rows_at, one_letter, IsOver, SameLetters, conjugated_row, frame_letter, sign_frame, row_string, put, IsTableau}
use Rattle.stab_tableau.proofs.PairedRowsLemmas.{put-again, row-put}
use Rattle.stab_tableau.proofs.SignFrameLemmas.{frame-stabilises}
use Rattle.stab_tableau.proofs.SignTableLemmas.{same-count, same-table, same-onto}

-- one letter

pub letter-back : (l : Letter) (a b : Bool) → letter_anticommuting (a ⊕ (letters_anticommute l X ⊕ a)) (b ⊕ (letters_anticommute l Z ⊕ b)) ≡ l
letter-back l a b = (λ i. letter_anticommuting (cancels a (letters_anticommute l X) i) (cancels b (letters_anticommute l Z) i)) ∙ determined l
  where
    cancels : (x y : Bool) → x ⊕ (y ⊕ x) ≡ y
    cancels x y = grind arith

    determined : (l : Letter) → letter_anticommuting (letters_anticommute l X) (letters_anticommute l Z) ≡ l
    determined = each_letter (λ l. letter_anticommuting (letters_anticommute l X) (letters_anticommute l Z) ≡ l) refl refl refl refl

frame-none : (r : InverseRows) → frame_letter r r ≡ I
frame-none r = λ i. letter_anticommuting (parity-self r.x.negative i) (parity-self r.z.negative i)

-- rows

same-none : (rows : List InverseRows) → SameLetters rows rows
same-none [] = tt
same-none (r ∷ rows) = (refl, refl, same-none rows)

frame-nothing : (rows : List InverseRows) → sign_frame rows rows ≡ replicate (length rows) I
frame-nothing [] = refl
frame-nothing (r ∷ rows) = λ i. frame-none r i ∷ frame-nothing rows i

-- the rows of a qubit have the same letters in both
pub same-letters_at : (w : InverseRow) (rows others : List InverseRows) (q : ℕ) → q < length rows → SameLetters rows others
    → (row_string w (rows_at rows q)).letters ≡ (row_string w (rows_at others q)).letters
same-letters_at w [] others q lt s = absurd (omega arith)
same-letters_at w (r ∷ rows) [] q lt s = absurd s
same-letters_at OfX (r ∷ rows) (t ∷ others) zero lt s = s.0
same-letters_at OfZ (r ∷ rows) (t ∷ others) zero lt s = s.1
same-letters_at w (r ∷ rows) (t ∷ others) (suc q) lt s = same-letters_at w rows others q (omega arith) s.2

-- both rows of a qubit conjugated, one after the other
pub conjugated-twice : (l : Letter) (q : ℕ) (old mid new : List InverseRows) (x z : Bool) → q < length old → x ≡ letters_anticommute l X → z ≡ letters_anticommute l Z
    → mid ≡ put OfX q (with_sign x (rows_at old q).x) old → new ≡ put OfZ q (with_sign z (rows_at mid q).z) mid → new ≡ set old q (conjugated_row l (rows_at old q))
conjugated-twice l q old mid new x z lt ex ez em en =
    en
    ∙ put-again OfZ q (with_sign z (rows_at mid q).z) old mid (record { x = with_sign x (rows_at old q).x; z = (rows_at old q).z }) lt em
    ∙ ap (λ (r : InverseRows). set old q (record { x = with_sign x (rows_at old q).x; z = with_sign z r.z }))
    (row-put q old mid (record { x = with_sign x (rows_at old q).x; z = (rows_at old q).z }) lt em)
    ∙ (λ i. set old q (record { x = with_sign (ex i) (rows_at old q).x; z = with_sign (ez i) (rows_at old q).z }))

-- the rows of one qubit conjugated by a letter
conjugated_at : Letter → ℕ → List InverseRows → List InverseRows
conjugated_at l q rows = set rows q (conjugated_row l (rows_at rows q))

same-conjugated : (l : Letter) (rows : List InverseRows) (q : ℕ) → SameLetters rows (conjugated_at l q rows)
unfolding conjugated_at
same-conjugated l [] q = tt
same-conjugated l (r ∷ rows) zero = (refl, refl, same-none rows)
same-conjugated l (r ∷ rows) (suc q) = (refl, refl, same-conjugated l rows q)

frame-conjugated : (l : Letter) (rows : List InverseRows) (q : ℕ) → q < length rows → sign_frame rows (conjugated_at l q rows) ≡ one_letter (length rows) q l
unfolding conjugated_at
frame-conjugated l [] q lt = absurd (omega arith)
frame-conjugated l (r ∷ rows) zero lt = λ i. letter-back l r.x.negative r.z.negative i ∷ frame-nothing rows i
frame-conjugated l (r ∷ rows) (suc q) lt = λ i. frame-none r i ∷ frame-conjugated l rows q (omega arith) i

-- states

-- the state of rows that differ in their signs alone is conjugated by their frame
pub frame-conjugates : (n : ℕ) (rows others : List InverseRows) → SameLetters rows others
    → IsConjugated n (sign_frame rows others) (stabilises (record { qubits = n; rows = rows })) (stabilises (record { qubits = n; rows = others }))
frame-conjugates n rows others s p lp = frame-stabilises n rows others s p

-- the same for the states that contracts see
pub determined-conjugated : (rows others : List InverseRows) → SameLetters rows others → (t u : TableauState)
    → record { qubits = length rows; rows = rows } ≡ t → record { qubits = length others; rows = others } ≡ u
    → (f : List Letter) → f ≡ sign_frame rows others → IsConjugated t.qubits f (stabilises t) (stabilises u)
determined-conjugated rows others s t u tv uv f e =
    subst (λ (u : TableauState). IsConjugated t.qubits f (stabilises t) (stabilises u)) uv
    (subst (λ (t : TableauState). IsConjugated t.qubits f (stabilises t) (stabilises (record { qubits = length others; rows = others }))) tv
    (subst (λ f. IsConjugated (length rows) f (stabilises (record { qubits = length rows; rows = rows })) (stabilises (record { qubits = length others; rows = others })))
    (sym e) by_rows))
  where
    by_rows : IsConjugated (length rows) (sign_frame rows others) (stabilises (record { qubits = length rows; rows = rows })) (stabilises (record { qubits = length others; rows = others }))
    by_rows p lp =
        ap (λ n. stabilises (record { qubits = n; rows = others }) p) (same-count rows others s)
        ∙ frame-conjugates (length rows) rows others s p lp

module _ (rows new : List InverseRows) (q : ℕ) (l : Letter) (lt : q < length rows) (e : new ≡ set rows q (conjugated_row l (rows_at rows q))) where
  pub conjugated-same : SameLetters rows new
  unfolding conjugated_at
  conjugated-same = subst (λ t. SameLetters rows t) (sym e) (same-conjugated l rows q)

  conjugated-frame : sign_frame rows new ≡ one_letter (length rows) q l
  unfolding conjugated_at
  conjugated-frame = ap (sign_frame rows) e ∙ frame-conjugated l rows q lt

  pub conjugated-length : length new ≡ length rows
  conjugated-length = ap length e ∙ length-set rows q (conjugated_row l (rows_at rows q))

  -- they are a tableau again
  pub conjugated-preserved : ((scratch : InverseRows) → IsOver (length rows) scratch → IsTableau (length rows) rows scratch)
      → (scratch : InverseRows) → IsOver (length new) scratch → IsTableau (length new) new scratch
  conjugated-preserved is scratch over =
      let old : IsTableau (length rows) rows scratch = is scratch (subst (λ n. IsOver n scratch) conjugated-length over) in
      subst (λ n. IsTableau n new scratch) (sym conjugated-length) (record {
        table = same-table (length rows) rows new conjugated-same old.table;
        onto = same-onto (length rows) rows new conjugated-same old.onto;
        size = old.size;
      })

  -- whose state is conjugated by the letter
  pub conjugated-state : (t : TableauState) → record { qubits = length rows; rows = rows } ≡ t
      → IsConjugated t.qubits (single t.qubits q l).letters (stabilises t) (stabilises (record { qubits = length new; rows = new }))
  conjugated-state t view = subst (λ (t : TableauState). IsConjugated t.qubits (single t.qubits q l).letters (stabilises t) (stabilises (record { qubits = length new; rows = new }))) view by_rows
    where
      by_rows : IsConjugated (length rows) (one_letter (length rows) q l) (stabilises (record { qubits = length rows; rows = rows })) (stabilises (record { qubits = length new; rows = new }))
      by_rows p lp =
          ap (λ n. stabilises (record { qubits = n; rows = new }) p) conjugated-length
          ∙ frame-conjugates (length rows) rows new conjugated-same p lp
          ∙ ap (λ f. stabilises (record { qubits = length rows; rows = rows }) (with_sign (strings_anticommute f p.letters) p)) conjugated-frame
