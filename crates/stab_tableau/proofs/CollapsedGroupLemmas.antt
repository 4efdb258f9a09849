-- Collapsed groups: the rows of 32 qubits after a measurement, by the masks that say which are multiplied and whose signs are flipped.
use Rattle.stab_tableau.proofs.Names.{◌≡◌, ℕ, ◌+◌, ◌-◌, ◌<◌, ◌≤◌, true, false, inl, inr, refl, sym, ◌∙◌, ap, subst, List, length, arith, ◌⊎◌, bit_xor, cases_lt, get_or_past, Letter, I, Z, ◌⊕◌, letters_anticommute, has_x, chooses, Signed, anticommute, with_sign, phased, product_times_i_if, clash, chooses-xor, phased-with_sign, InverseRow, OfX, OfZ, letter_at, InverseRows, rows_at, row_position, row_letter, row_string, ArePairsChosen, collapsed_row, CollapsedRow, IsDetermined}
use Rattle.stab_tableau.proofs.CollapsedStringLemmas.{collapsed-bit}
use Rattle.stab_tableau.proofs.AnticommutingRowsLemmas.{commutes-I}
use Rattle.stab_tableau.proofs.DiagonalLemmas.{x-with_Z}

-- either row of a qubit
determined-string : (w : InverseRow) (k : ℕ) (j : Signed) (l : Letter) (row : InverseRows) → IsDetermined k j l row
    → anticommute (row_string w row) j ≡ letters_anticommute Z (letter_at (row_string w row).letters k) ⊕ letters_anticommute (row_letter w) l
determined-string OfX k j l row determined = determined.x
determined-string OfZ k j l row determined = determined.z

-- the bit of a row that is not there
no-row : (w : InverseRow) (rows : List InverseRows) (q position : ℕ) → length rows ≤ q → has_x (letter_at (row_string w (rows_at rows q)).letters position) ≡ false
no-row OfX rows q position le = ap (λ (r : InverseRows). has_x (letter_at r.x.letters position)) (get_or_past rows q _ le)
no-row OfZ rows q position le = ap (λ (r : InverseRows). has_x (letter_at r.z.letters position)) (get_or_past rows q _ le)

module _ (position : ℕ) (j : Signed) (letters : List Letter) (first with_w with_r : ℕ) (old : List InverseRows)
    (size : length letters ≡ length old)
    (determined : (q : ℕ) → first ≤ q → q < length old → IsDetermined position j (letter_at letters q) (rows_at old q))
    (with_w_is : (w : InverseRow) (k : ℕ) → k < 32 → chooses with_w (row_position w k) ≡ has_x (letter_at (row_string w (rows_at old (first + k))).letters position))
    (with_r_is : (w : InverseRow) (k : ℕ) → k < 32 → chooses with_r (row_position w k) ≡ letters_anticommute (row_letter w) (letter_at letters (first + k))) where
  -- the masks say which rows anticommute with the multiplier
  determined-row : (w : InverseRow) (k : ℕ) → k < 32 → first + k < length old
      → anticommute (row_string w (rows_at old (first + k))) j ≡ chooses with_w (row_position w k) ⊕ chooses with_r (row_position w k)
  determined-row w k lk lt =
      determined-string w position j (letter_at letters (first + k)) (rows_at old (first + k)) (determined (first + k) (omega arith) lt)
      ∙ (λ i. (x-with_Z (letter_at (row_string w (rows_at old (first + k))).letters position) ∙ sym (with_w_is w k lk)) i ⊕ sym (with_r_is w k lk) i)

  determined-both : (w : InverseRow) (k : ℕ) → k < 32 → first + k < length old
      → anticommute (row_string w (rows_at old (first + k))) j ≡ chooses (bit_xor with_w with_r) (row_position w k)
  determined-both w k lk lt = determined-row w k lk lt ∙ sym (chooses-xor with_w with_r (row_position w k))

  -- they choose no row that is not there
  none-there : (w : InverseRow) (k : ℕ) → k < 32 → length old ≤ first + k → (chooses with_w (row_position w k) ≡ false) × (chooses with_r (row_position w k) ≡ false)
  none-there w k lk le = (
    with_w_is w k lk ∙ no-row w old (first + k) position le,
    with_r_is w k lk ∙ commutes-I w letters (first + k) (get_or_past letters (first + k) I (omega arith)),
  )

  pub multiplied-in : (w : InverseRow) (k : ℕ) → k < 32 → chooses (bit_xor with_w with_r) (row_position w k) ≡ true → first + k < length old
  multiplied-in w k lk one = by_position (cases_lt (first + k) (length old))
    where
      by_position : (first + k < length old) ⊎ (length old ≤ first + k) → first + k < length old
      by_position (inl lt) = lt
      by_position (inr le) =
          let none = none-there w k lk le in
          clash (chooses (bit_xor with_w with_r) (row_position w k)) one (chooses-xor with_w with_r (row_position w k) ∙ (λ i. none.0 i ⊕ none.1 i))

  pub multiplied-distinct : (w : InverseRow) (k : ℕ) → k < 32 → chooses (bit_xor with_w with_r) (row_position w k) ≡ true
      → anticommute (row_string w (rows_at old (first + k))) j ≡ true
  multiplied-distinct w k lk one = determined-both w k lk (multiplied-in w k lk one) ∙ one

  module _ (mid new : List InverseRows) (multiplied : ArePairsChosen first (bit_xor with_w with_r) (λ b p. product_times_i_if b p j) old mid)
      (conjugated : ArePairsChosen first with_r with_sign mid new) where
    string-collapsed : (w : InverseRow) (k : ℕ) → k < 32 → first + k < length old
        → phased (row_string w (rows_at new (first + k)))
        ≡ collapsed_row (letters_anticommute Z (letter_at (row_string w (rows_at old (first + k))).letters position)) (anticommute (row_string w (rows_at old (first + k))) j) (phased j) (phased (row_string w (rows_at old (first + k))))
    string-collapsed w k lk lt =
        let s = row_string w (rows_at old (first + k)) in
        let r = chooses with_r (row_position w k) in
        ap phased (conjugated.within w k lk ∙ ap (with_sign r) (multiplied.within w k lk ∙ ap (λ b. product_times_i_if b s j) (sym (determined-both w k lk lt))))
        ∙ phased-with_sign r (product_times_i_if (anticommute s j) s j)
        ∙ collapsed-bit s j (anticommute s j) (chooses with_w (row_position w k)) r refl (determined-row w k lk lt)
        ∙ ap (λ b. collapsed_row b (anticommute s j) (phased j) (phased s)) (with_w_is w k lk ∙ sym (x-with_Z (letter_at s.letters position)))

    collapsed-at : (k : ℕ) → k < 32 → first + k < length old → CollapsedRow position j (rows_at old (first + k)) (rows_at new (first + k))
    collapsed-at k lk lt = record { x = string-collapsed OfX k lk lt; z = string-collapsed OfZ k lk lt }

    pub group-collapsed : (q : ℕ) → first ≤ q → q < first + 32 → q < length old → CollapsedRow position j (rows_at old q) (rows_at new q)
    group-collapsed q le near lt =
        let e : first + (q - first) ≡ q = omega arith in
        subst (λ a. CollapsedRow position j (rows_at old a) (rows_at new a)) e (collapsed-at (q - first) (omega arith) (omega arith))

-- a walk from group to group
module _ (position first : ℕ) (j : Signed) (rows now new : List InverseRows)
    (rest : (q : ℕ) → first ≤ q → rows_at now q ≡ rows_at rows q)
    (others : (q : ℕ) → (q < first) ⊎ (first + 32 ≤ q) → rows_at new q ≡ rows_at now q) where
  pub groups-rest : (q : ℕ) → first + 32 ≤ q → rows_at new q ≡ rows_at rows q
  groups-rest q le = others q (inr le) ∙ rest q (omega arith)

  pub groups-done : ((q : ℕ) → q < first → q < length rows → CollapsedRow position j (rows_at rows q) (rows_at now q))
      → ((q : ℕ) → first ≤ q → q < first + 32 → q < length rows → CollapsedRow position j (rows_at now q) (rows_at new q))
      → (q : ℕ) → q < first + 32 → q < length rows → CollapsedRow position j (rows_at rows q) (rows_at new q)
  groups-done done group q near lt = by_position (cases_lt q first)
    where
      by_position : (q < first) ⊎ (first ≤ q) → CollapsedRow position j (rows_at rows q) (rows_at new q)
      by_position (inl before) = subst (CollapsedRow position j (rows_at rows q)) (sym (others q (inl before))) (done q before lt)
      by_position (inr le) = subst (λ old. CollapsedRow position j old (rows_at new q)) (rest q le) (group q le near lt)
