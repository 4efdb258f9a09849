-- Letters that are put where a mask chooses rows: what a walk from qubit to qubit has done.
use Rattle.stab_tableau.proofs.Names.{◌≡◌, ◌≢◌, ℕ, ◌+◌, ◌*◌, ◌/◌, ◌<◌, ◌≤◌, true, false, inl, inr, sym, ◌∙◌, ap, subst, List, length, set, arith, ◌⊎◌, cases_order, length-set, get_or-set_same, get_or-set_other, Letter, I, chooses, Signed, clash, none-chosen, InverseRow, OfX, OfZ, letter_at, letter_anticommuting, row_position}
use Rattle.stab_tableau.proofs.PairsChosenLemmas.{IsPosition, position-of}

-- a qubit whose rows are still in the rest of the mask, and which has I
pub record IsLeft (first mask rest k : ℕ) (now : List Letter) : Type 0 where
  pub same : (w : InverseRow) → chooses rest (row_position w k) ≡ chooses mask (row_position w k)
  pub blank : letter_at now (first + k) ≡ I

-- a qubit that has its letter
pub record IsPut (first mask rest k : ℕ) (now : List Letter) : Type 0 where
  pub gone : (w : InverseRow) → chooses rest (row_position w k) ≡ false
  pub letter : letter_at now (first + k) ≡ letter_anticommuting (chooses mask (2 * k)) (chooses mask (2 * k + 1))

pub record ArePut (first mask rest : ℕ) (old now : Signed) : Type 0 where
  pub sign : now.negative ≡ old.negative
  pub size : length now.letters ≡ length old.letters
  pub each : (k : ℕ) → k < 32 → IsLeft first mask rest k now.letters ⊎ IsPut first mask rest k now.letters
  pub others : (q : ℕ) → (q < first) ⊎ (first + 32 ≤ q) → letter_at now.letters q ≡ letter_at old.letters q

pub put-end : (first mask rest : ℕ) (old now : Signed) → rest ≡ 0 → ArePut first mask rest old now
    → (k : ℕ) → k < 32 → letter_at now.letters (first + k) ≡ letter_anticommuting (chooses mask (2 * k)) (chooses mask (2 * k + 1))
put-end first mask rest old now e put k lk = by_state (put.each k lk)
  where
    none : (i : ℕ) → chooses rest i ≡ false
    none i = ap (λ m. chooses m i) e ∙ none-chosen i

    by_state : IsLeft first mask rest k now.letters ⊎ IsPut first mask rest k now.letters
        → letter_at now.letters (first + k) ≡ letter_anticommuting (chooses mask (2 * k)) (chooses mask (2 * k + 1))
    by_state (inl left) =
        left.blank
        ∙ (λ i. letter_anticommuting ((sym (none (2 * k)) ∙ left.same OfX) i) ((sym (none (2 * k + 1)) ∙ left.same OfZ) i))
    by_state (inr done) = done.letter

half-position : (w : InverseRow) (k : ℕ) → row_position w k / 2 ≡ k
half-position OfX k = omega arith
half-position OfZ k = omega arith

-- the qubit of a row in the rest of the mask
module _ (first mask rest : ℕ) (old now : Signed) (put : ArePut first mask rest old now) (i : ℕ) (lt : i < 64) (one : chooses rest i ≡ true) where
  pub put-in : ((w : InverseRow) (k : ℕ) → k < 32 → chooses mask (row_position w k) ≡ true → first + k < length old.letters) → first + i / 2 < length old.letters
  put-in within = by_state (put.each at.qubit at.below)
    where
      at : IsPosition i
      at = position-of i lt

      there : chooses rest (row_position at.row at.qubit) ≡ true
      there = ap (chooses rest) (sym at.position) ∙ one

      by_state : IsLeft first mask rest at.qubit now.letters ⊎ IsPut first mask rest at.qubit now.letters → first + i / 2 < length old.letters
      by_state (inl left) =
          let in_range = within at.row at.qubit at.below (sym (left.same at.row) ∙ there) in
          let e : i / 2 ≡ at.qubit = ap (λ n. n / 2) at.position ∙ half-position at.row at.qubit in
          omega arith
      by_state (inr done) = clash (chooses rest (row_position at.row at.qubit)) there (done.gone at.row)

-- both rows of a qubit leave the mask
module _ (rest mid next k : ℕ) (lk : k < 32) (x_gone : chooses mid (2 * k) ≡ false) (x_others : (j : ℕ) → j ≢ 2 * k → j < 64 → chooses mid j ≡ chooses rest j)
    (z_gone : chooses next (2 * k + 1) ≡ false) (z_others : (j : ℕ) → j ≢ 2 * k + 1 → j < 64 → chooses next j ≡ chooses mid j) where
  pair-gone : (w : InverseRow) → chooses next (row_position w k) ≡ false
  pair-gone OfX = z_others (2 * k) (omega arith) (omega arith) ∙ x_gone
  pair-gone OfZ = z_gone

  pair-others : (w : InverseRow) (j : ℕ) → j < 32 → j ≢ k → chooses next (row_position w j) ≡ chooses rest (row_position w j)
  pair-others OfX j lj ne = z_others (2 * j) (omega arith) (omega arith) ∙ x_others (2 * j) (omega arith) (omega arith)
  pair-others OfZ j lj ne = z_others (2 * j + 1) (omega arith) (omega arith) ∙ x_others (2 * j + 1) (omega arith) (omega arith)

  module _ (first mask : ℕ) (old now new : Signed) (put : ArePut first mask rest old now) (within : first + k < length old.letters)
      (made : new ≡ record now { letters = set now.letters (first + k) (letter_anticommuting (chooses mask (2 * k)) (chooses mask (2 * k + 1))) }) where
    letter : Letter
    letter = letter_anticommuting (chooses mask (2 * k)) (chooses mask (2 * k + 1))

    away : (q : ℕ) → q ≢ first + k → letter_at new.letters q ≡ letter_at now.letters q
    unfolding letter
    away q ne = ap (λ (p : Signed). letter_at p.letters q) made ∙ get_or-set_other now.letters (first + k) q letter I ne

    here : letter_at new.letters (first + k) ≡ letter
    unfolding letter
    here = ap (λ (p : Signed). letter_at p.letters (first + k)) made ∙ get_or-set_same now.letters (first + k) letter I (let e = put.size in omega arith)

    each-next : (j : ℕ) → j < 32 → IsLeft first mask next j new.letters ⊎ IsPut first mask next j new.letters
    unfolding letter
    each-next j lj = by_position (cases_order j k)
      where
        still : j ≢ k → IsLeft first mask rest j now.letters ⊎ IsPut first mask rest j now.letters → IsLeft first mask next j new.letters ⊎ IsPut first mask next j new.letters
        still ne (inl left) = inl (record { same = λ w. pair-others w j lj ne ∙ left.same w; blank = away (first + j) (omega arith) ∙ left.blank })
        still ne (inr done) = inr (record { gone = λ w. pair-others w j lj ne ∙ done.gone w; letter = away (first + j) (omega arith) ∙ done.letter })

        by_position : (j ≡ k) ⊎ ((j < k) ⊎ (k < j)) → IsLeft first mask next j new.letters ⊎ IsPut first mask next j new.letters
        by_position (inl e) = subst (λ i. IsLeft first mask next i new.letters ⊎ IsPut first mask next i new.letters) (sym e) (inr (record { gone = pair-gone; letter = here }))
        by_position (inr (inl lt)) = still (omega arith) (put.each j lj)
        by_position (inr (inr gt)) = still (omega arith) (put.each j lj)

    others-next : (q : ℕ) → (q < first) ⊎ (first + 32 ≤ q) → letter_at new.letters q ≡ letter_at old.letters q
    others-next q (inl lt) = away q (omega arith) ∙ put.others q (inl lt)
    others-next q (inr le) = away q (omega arith) ∙ put.others q (inr le)

    pub put-next : ArePut first mask next old new
    put-next = record {
      sign = ap (λ (p : Signed). p.negative) made ∙ put.sign;
      size = ap (λ (p : Signed). length p.letters) made ∙ length-set now.letters (first + k) _ ∙ put.size;
      each = each-next;
      others = others-next;
    }
