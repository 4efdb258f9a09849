-- Pairs that a mask chooses: each bit is for one row of one of 32 qubits.
use Rattle.stab_tableau.proofs.Names.{◌≡◌, ℕ, ◌*◌, ◌+◌, ◌/◌, ◌%◌, ◌<◌, ◌≤◌, Bool, true, false, inl, inr, refl, sym, ◌∙◌, ap, subst, List, length, get_or, arith, ◌⊎◌, cases_lt, get_or_past, I, has_x, Signed, identity, Rows, string_at, chooses, AreChosen, two_cases, below_two, past-rows, InverseRow, OfX, OfZ, letter_at, InverseRows, rows_at, paired_strings, row_position, row_string, IsPaired, ArePairsChosen}
use Rattle.stab_tableau.proofs.TestLemmas.{not-true}
use Rattle.stab_tableau.proofs.PairedRowsLemmas.{pairs-are, pair-in, pair-read}

-- positions

pub position-below : (w : InverseRow) (k : ℕ) → k < 32 → row_position w k < 64
position-below OfX k lt = omega arith
position-below OfZ k lt = omega arith

pub position-following : (w : InverseRow) (first k : ℕ) → 2 * first + row_position w k ≡ row_position w (first + k)
position-following OfX first k = omega arith
position-following OfZ first k = omega arith

-- a position among 64 is that of one of 32 qubits
pub record IsPosition (i : ℕ) : Type 0 where
  pub row : InverseRow
  pub qubit : ℕ
  pub below : qubit < 32
  pub position : i ≡ row_position row qubit

pub position-of : (i : ℕ) → i < 64 → IsPosition i
position-of i lt = by_half (two_cases (i % 2) (below_two i))
  where
    by_half : (i % 2 ≡ 0) ⊎ (i % 2 ≡ 1) → IsPosition i
    by_half (inl e) = record { row = OfX; qubit = i / 2; below = omega arith; position = (let p : i ≡ 2 * (i / 2) = omega arith in p) }
    by_half (inr e) = record { row = OfZ; qubit = i / 2; below = omega arith; position = (let p : i ≡ 2 * (i / 2) + 1 = omega arith in p) }

-- both strings of a qubit determine its rows
both : (r s : InverseRows) → ((w : InverseRow) → row_string w r ≡ row_string w s) → r ≡ s
both r s same = λ i. record { x = same OfX i; z = same OfZ i }

-- the rows past the last qubit
abbrev none : InverseRows
none = record { x = identity 0; z = identity 0 }

-- what is asked of chosen strings, by the rows of qubits

module _ (r : Rows) (is : IsPaired r) (first mask : ℕ)
    (within : (w : InverseRow) (k : ℕ) → k < 32 → chooses mask (row_position w k) ≡ true → first + k < length (paired_strings r.rows)) where
  pub chosen-in : (i : ℕ) → i < 64 → chooses mask i ≡ true → 2 * first + i < length r.rows
  chosen-in i lt one =
      let at = position-of i lt in
      let e = at.position in
      let f = position-following at.row first at.qubit in
      let there = pair-in r is at.row (first + at.qubit) (within at.row at.qubit at.below (ap (chooses mask) (sym e) ∙ one)) in
      omega arith

  pub chosen-is : (P : Signed → Bool)
      → ((w : InverseRow) (k : ℕ) → k < 32 → chooses mask (row_position w k) ≡ true → P (row_string w (rows_at (paired_strings r.rows) (first + k))) ≡ true)
      → (i : ℕ) → i < 64 → chooses mask i ≡ true → P (string_at r (2 * first + i)) ≡ true
  chosen-is P holds i lt one =
      let at = position-of i lt in
      let chosen : chooses mask (row_position at.row at.qubit) ≡ true = ap (chooses mask) (sym at.position) ∙ one in
      ap (λ j. P (string_at r j)) (ap (λ k. 2 * first + k) at.position ∙ position-following at.row first at.qubit)
      ∙ ap P (pair-read r is at.row (first + at.qubit) (within at.row at.qubit at.below chosen))
      ∙ holds at.row at.qubit at.below chosen

  module _ (change : Bool → Signed → Signed) (stays : (p : Signed) → change false p ≡ p) (new : Rows) (chosen : AreChosen (2 * first) mask change r new) where
    pub chosen-paired : IsPaired new
    chosen-paired = record {
      few = (let e = chosen.qubits in let f = is.few in omega arith);
      size = chosen.size ∙ is.size ∙ ap (λ n. 2 * n) (sym chosen.qubits);
    }

    same-length : length (paired_strings new.rows) ≡ length (paired_strings r.rows)
    same-length = pairs-are new chosen-paired ∙ chosen.qubits ∙ sym (pairs-are r is)

    past : (q : ℕ) → length (paired_strings r.rows) ≤ q → rows_at (paired_strings new.rows) q ≡ rows_at (paired_strings r.rows) q
    past q le = get_or_past (paired_strings new.rows) q _ (let l = same-length in omega arith) ∙ sym (get_or_past (paired_strings r.rows) q _ le)

    string-within : (w : InverseRow) (k : ℕ) → k < 32
        → row_string w (rows_at (paired_strings new.rows) (first + k)) ≡ change (chooses mask (row_position w k)) (row_string w (rows_at (paired_strings r.rows) (first + k)))
    string-within w k lk = by_position (cases_lt (first + k) (length (paired_strings r.rows)))
      where
        by_position : (first + k < length (paired_strings r.rows)) ⊎ (length (paired_strings r.rows) ≤ first + k)
            → row_string w (rows_at (paired_strings new.rows) (first + k)) ≡ change (chooses mask (row_position w k)) (row_string w (rows_at (paired_strings r.rows) (first + k)))
        by_position (inl lt) =
            sym (pair-read new chosen-paired w (first + k) (let l = same-length in omega arith))
            ∙ ap (string_at new) (sym (position-following w first k))
            ∙ chosen.within (row_position w k) (position-below w k lk)
            ∙ ap (change (chooses mask (row_position w k))) (ap (string_at r) (position-following w first k) ∙ pair-read r is w (first + k) lt)
        by_position (inr le) =
            ap (row_string w) (past (first + k) le)
            ∙ sym (stays (row_string w (rows_at (paired_strings r.rows) (first + k))))
            ∙ ap (λ b. change b (row_string w (rows_at (paired_strings r.rows) (first + k))))
            (sym (not-true (chooses mask (row_position w k)) (λ one. let lt = within w k lk one in omega arith)))

    distinct : (w : InverseRow) (q : ℕ) → (q < first) ⊎ (first + 32 ≤ q) → (row_position w q < 2 * first) ⊎ (2 * first + 64 ≤ row_position w q)
    distinct OfX q (inl lt) = inl (omega arith)
    distinct OfX q (inr le) = inr (omega arith)
    distinct OfZ q (inl lt) = inl (omega arith)
    distinct OfZ q (inr le) = inr (omega arith)

    others : (q : ℕ) → (q < first) ⊎ (first + 32 ≤ q) → rows_at (paired_strings new.rows) q ≡ rows_at (paired_strings r.rows) q
    others q away = by_position (cases_lt q (length (paired_strings r.rows)))
      where
        by_position : (q < length (paired_strings r.rows)) ⊎ (length (paired_strings r.rows) ≤ q) → rows_at (paired_strings new.rows) q ≡ rows_at (paired_strings r.rows) q
        by_position (inl lt) = both (rows_at (paired_strings new.rows) q) (rows_at (paired_strings r.rows) q) (λ w.
            sym (pair-read new chosen-paired w q (let l = same-length in omega arith))
            ∙ chosen.others (row_position w q) (distinct w q away)
            ∙ pair-read r is w q lt)
        by_position (inr le) = past q le

    pub chosen-written : ArePairsChosen first mask change (paired_strings r.rows) (paired_strings new.rows)
    chosen-written = record { size = same-length; within = string-within; others = others }

-- the same by the pairs that contracts see

module _ (r : Rows) (is : IsPaired r) (t : List InverseRows) (view : paired_strings r.rows ≡ t) (first mask : ℕ)
    (within : (w : InverseRow) (k : ℕ) → k < 32 → chooses mask (row_position w k) ≡ true → first + k < length t) where
  inside : (w : InverseRow) (k : ℕ) → k < 32 → chooses mask (row_position w k) ≡ true → first + k < length (paired_strings r.rows)
  inside w k lk one = let lt = within w k lk one in let e = ap length view in omega arith

  pub seen-chosen-in : (i : ℕ) → i < 64 → chooses mask i ≡ true → 2 * first + i < length r.rows
  seen-chosen-in = chosen-in r is first mask inside

  pub seen-chosen-is : (P : Signed → Bool)
      → ((w : InverseRow) (k : ℕ) → k < 32 → chooses mask (row_position w k) ≡ true → P (row_string w (rows_at t (first + k))) ≡ true)
      → (i : ℕ) → i < 64 → chooses mask i ≡ true → P (string_at r (2 * first + i)) ≡ true
  seen-chosen-is P holds =
      chosen-is r is first mask inside P (λ w k lk one. ap (λ rows. P (row_string w (rows_at rows (first + k)))) view ∙ holds w k lk one)

  pub seen-chosen-paired : (change : Bool → Signed → Signed) → ((p : Signed) → change false p ≡ p) → (new : Rows) → AreChosen (2 * first) mask change r new → IsPaired new
  seen-chosen-paired = chosen-paired r is first mask inside

  pub seen-chosen-written : (change : Bool → Signed → Signed) → ((p : Signed) → change false p ≡ p) → (new : Rows) → AreChosen (2 * first) mask change r new
      → ArePairsChosen first mask change t (paired_strings new.rows)
  seen-chosen-written change stays new chosen =
      subst (λ rows. ArePairsChosen first mask change rows (paired_strings new.rows)) view (chosen-written r is first mask inside change stays new chosen)

-- which rows of qubits have X or Y at a position
module _ (r : Rows) (is : IsPaired r) (first position mask : ℕ)
    (determines : (i : ℕ) → i < 64 → chooses mask i ≡ has_x (get_or (string_at r (2 * first + i)).letters position I)) where
  pub pairs-with_x : (w : InverseRow) (k : ℕ) → k < 32 → chooses mask (row_position w k) ≡ has_x (letter_at (row_string w (rows_at (paired_strings r.rows) (first + k))).letters position)
  pairs-with_x w k lk =
      determines (row_position w k) (position-below w k lk)
      ∙ ap (λ j. has_x (get_or (string_at r j).letters position I)) (position-following w first k)
      ∙ by_position (cases_lt (first + k) (length (paired_strings r.rows)))
    where
      following : (v : InverseRow) (q : ℕ) → length r.rows ≡ 2 * r.qubits → r.qubits ≤ q → length r.rows ≤ row_position v q
      following OfX q e le = omega arith
      following OfZ q e le = omega arith

      empty : (v : InverseRow) → has_x (letter_at (row_string v none).letters position) ≡ false
      empty OfX = refl
      empty OfZ = refl

      by_position : (first + k < length (paired_strings r.rows)) ⊎ (length (paired_strings r.rows) ≤ first + k)
          → has_x (get_or (string_at r (row_position w (first + k))).letters position I) ≡ has_x (letter_at (row_string w (rows_at (paired_strings r.rows) (first + k))).letters position)
      by_position (inl lt) = ap (λ (p : Signed). has_x (letter_at p.letters position)) (pair-read r is w (first + k) lt)
      by_position (inr le) =
          past-rows r (row_position w (first + k)) position (following w (first + k) is.size (let e = pairs-are r is in omega arith))
          ∙ sym (ap (λ p. has_x (letter_at (row_string w p).letters position)) (get_or_past (paired_strings r.rows) (first + k) _ le) ∙ empty w)
