-- Rows that a mask chooses: what a walk from one to the next has done.
use Rattle.stab_pauli.proofs.Names.{◌≡◌, ◌≢◌, ℕ, ◌+◌, ◌-◌, ◌*◌, ◌/◌, ◌^◌, ◌<◌, ◌≤◌, Bool, true, false, refl, sym, ◌∙◌, ap, subst, length, get_or, arith, inl, inr, ◌⊎◌, cases_order, cases_lt, length-set, get_or-set_same, get_or-set_other, get_or_past, get_or-replicate, length-replicate, I, has_x, Signed, identity, Rows, row_at, with_row, chooses, AreChosen}
use Rattle.stab_pauli.proofs.MaskLemmas.{clash, none-chosen, unchosen-above}

-- the chosen rows are changed except those that are left in the rest of the mask
pub record IsWalked (first mask rest : ℕ) (change : Bool → Signed → Signed) (old now : Rows) : Type 0 where
  pub qubits : now.qubits ≡ old.qubits
  pub size : length now.rows ≡ length old.rows
  pub among : (k : ℕ) → k < 64 → chooses rest k ≡ true → chooses mask k ≡ true
  pub done : (k : ℕ) → k < 64 → chooses rest k ≡ false → row_at now (first + k) ≡ change (chooses mask k) (row_at old (first + k))
  pub left : (k : ℕ) → k < 64 → chooses rest k ≡ true → row_at now (first + k) ≡ row_at old (first + k)
  pub others : (a : ℕ) → (a < first) ⊎ (first + 64 ≤ a) → row_at now a ≡ row_at old a

module _ (first mask : ℕ) (change : Bool → Signed → Signed) (old : Rows) where
  pub walk-start : ((p : Signed) → change false p ≡ p) → IsWalked first mask mask change old old
  walk-start stays = record {
    qubits = refl;
    size = refl;
    among = λ k lt one. one;
    done = λ k lt none. sym (ap (λ b. change b (row_at old (first + k))) none ∙ stays (row_at old (first + k)));
    left = λ k lt one. refl;
    others = λ a distinct. refl;
  }

  pub walk-end : (now : Rows) (rest : ℕ) → rest ≡ 0 → IsWalked first mask rest change old now → AreChosen first mask change old now
  walk-end now rest e walked = record {
    qubits = walked.qubits;
    size = walked.size;
    within = λ k lt. walked.done k lt (ap (λ n. chooses n k) e ∙ none-chosen k);
    others = walked.others;
  }

  -- one row further
  module _ (now : Rows) (rest k : ℕ) (walked : IsWalked first mask rest change old now) (lk : k < 64) (one : chooses rest k ≡ true) (within : first + k < length old.rows)
      (new : Rows) (made : new ≡ with_row now (first + k) (change true (row_at now (first + k)))) (next : ℕ) (gone : chooses next k ≡ false)
      (preserved : (j : ℕ) → j ≢ k → j < 64 → chooses next j ≡ chooses rest j) where
    other : (a : ℕ) → a ≢ first + k → row_at new a ≡ row_at now a
    other a distinct = ap (λ (r : Rows). row_at r a) made ∙ get_or-set_other now.rows (first + k) a (change true (row_at now (first + k))) (identity now.qubits) distinct

    here : row_at new (first + k) ≡ change (chooses mask k) (row_at old (first + k))
    here =
        ap (λ (r : Rows). row_at r (first + k)) made
        ∙ get_or-set_same now.rows (first + k) (change true (row_at now (first + k))) (identity now.qubits) (let e = walked.size in omega arith)
        ∙ (λ i. change (sym (walked.among k lk one) i) (walked.left k lk one i))

    among-next : (j : ℕ) → j < 64 → chooses next j ≡ true → chooses mask j ≡ true
    among-next j lj chosen = by_position (cases_order j k)
      where
        distinct : j ≢ k → chooses mask j ≡ true
        distinct ne = walked.among j lj (sym (preserved j ne lj) ∙ chosen)

        by_position : (j ≡ k) ⊎ ((j < k) ⊎ (k < j)) → chooses mask j ≡ true
        by_position (inl e) = ap (chooses mask) e ∙ walked.among k lk one
        by_position (inr (inl lt)) = distinct (omega arith)
        by_position (inr (inr gt)) = distinct (omega arith)

    done-next : (j : ℕ) → j < 64 → chooses next j ≡ false → row_at new (first + j) ≡ change (chooses mask j) (row_at old (first + j))
    done-next j lj none = by_position (cases_order j k)
      where
        distinct : j ≢ k → row_at new (first + j) ≡ change (chooses mask j) (row_at old (first + j))
        distinct ne = other (first + j) (omega arith) ∙ walked.done j lj (sym (preserved j ne lj) ∙ none)

        by_position : (j ≡ k) ⊎ ((j < k) ⊎ (k < j)) → row_at new (first + j) ≡ change (chooses mask j) (row_at old (first + j))
        by_position (inl e) = subst (λ i. row_at new (first + i) ≡ change (chooses mask i) (row_at old (first + i))) (sym e) here
        by_position (inr (inl lt)) = distinct (omega arith)
        by_position (inr (inr gt)) = distinct (omega arith)

    left-next : (j : ℕ) → j < 64 → chooses next j ≡ true → row_at new (first + j) ≡ row_at old (first + j)
    left-next j lj chosen = by_position (cases_order j k)
      where
        distinct : j ≢ k → row_at new (first + j) ≡ row_at old (first + j)
        distinct ne = other (first + j) (omega arith) ∙ walked.left j lj (sym (preserved j ne lj) ∙ chosen)

        by_position : (j ≡ k) ⊎ ((j < k) ⊎ (k < j)) → row_at new (first + j) ≡ row_at old (first + j)
        by_position (inl e) = clash (chooses next k) (ap (chooses next) (sym e) ∙ chosen) gone
        by_position (inr (inl lt)) = distinct (omega arith)
        by_position (inr (inr gt)) = distinct (omega arith)

    others-next : (a : ℕ) → (a < first) ⊎ (first + 64 ≤ a) → row_at new a ≡ row_at old a
    others-next a (inl lt) = other a (omega arith) ∙ walked.others a (inl lt)
    others-next a (inr le) = other a (omega arith) ∙ walked.others a (inr le)

    pub walk-step : IsWalked first mask next change old new
    walk-step = record {
      qubits = ap (λ (r : Rows). r.qubits) made ∙ walked.qubits;
      size = ap (λ (r : Rows). length r.rows) made ∙ length-set now.rows (first + k) (change true (row_at now (first + k))) ∙ walked.size;
      among = among-next;
      done = done-next;
      left = left-next;
      others = others-next;
    }

-- no letter of a row that is not there has an X part
pub past-rows : (v : Rows) (a q : ℕ) → length v.rows ≤ a → has_x (get_or (row_at v a).letters q I) ≡ false
past-rows v a q le = ap (λ (p : Signed). has_x (get_or p.letters q I)) (get_or_past v.rows a (identity v.qubits) le) ∙ ap has_x (by_position (cases_order q v.qubits))
  where
    blank : q < v.qubits → get_or (identity v.qubits).letters q I ≡ I
    blank lt = get_or-replicate v.qubits q I I lt

    past : v.qubits ≤ q → get_or (identity v.qubits).letters q I ≡ I
    past beyond = get_or_past (identity v.qubits).letters q I (let l = length-replicate v.qubits I in omega arith)

    by_position : (q ≡ v.qubits) ⊎ ((q < v.qubits) ⊎ (v.qubits < q)) → get_or (identity v.qubits).letters q I ≡ I
    by_position (inl e) = past (omega arith)
    by_position (inr (inl lt)) = blank lt
    by_position (inr (inr gt)) = past (omega arith)

-- which of 64 rows have X or Y at a qubit, and where any has them, if only those before an end are looked at: there are no others
module _ (v : Rows) (first end q : ℕ) (last : (k : ℕ) → k < 64 → end ≤ first + k → length v.rows ≤ first + k) where
  pub mask-with_x : (mask : ℕ) → mask < 2 ^ (end - first) → ((k : ℕ) → first + k < end → chooses mask k ≡ has_x (get_or (row_at v (first + k)).letters q I))
      → (k : ℕ) → k < 64 → chooses mask k ≡ has_x (get_or (row_at v (first + k)).letters q I)
  mask-with_x mask short value k lk = by_position (cases_lt (first + k) end)
    where
      by_position : (first + k < end) ⊎ (end ≤ first + k) → chooses mask k ≡ has_x (get_or (row_at v (first + k)).letters q I)
      by_position (inl lt) = value k lt
      by_position (inr le) = unchosen-above mask (end - first) k short (omega arith) ∙ sym (past-rows v (first + k) q (last k lk le))

  pub positions-with_x : (positions : ℕ) → ((k j : ℕ) → first + k < end → j < 64 → has_x (get_or (row_at v (first + k)).letters (64 * (q / 64) + j) I) ≡ true → chooses positions j ≡ true)
      → (k j : ℕ) → k < 64 → j < 64 → has_x (get_or (row_at v (first + k)).letters (64 * (q / 64) + j) I) ≡ true → chooses positions j ≡ true
  positions-with_x positions among k j lk lj one = by_position (cases_lt (first + k) end)
    where
      by_position : (first + k < end) ⊎ (end ≤ first + k) → chooses positions j ≡ true
      by_position (inl lt) = among k j lt lj one
      by_position (inr le) = clash (has_x (get_or (row_at v (first + k)).letters (64 * (q / 64) + j) I)) one (past-rows v (first + k) (64 * (q / 64) + j) (last k lk le))
