-- Supports: what covers rows after some of them have changed.
use Rattle.stab_tableau.proofs.Names.{◌≡◌, ◌≢◌, ℕ, ◌*◌, ◌+◌, ◌-◌, ◌<◌, ◌≤◌, Bool, true, false, inl, inr, refl, sym, ◌∙◌, ap, subst, List, length, get_or, set, arith, ◌⊎◌, bit_or, cases_lt, cases_order, length-set, get_or-set_same, get_or-set_other, get_or_default, Letter, I, X, Y, Z, letter_product, has_x, chooses, AreChosen, Signed, identity, with_sign, Rows, row_at, with_row, product_times_i_if, chosen-first, chosen-second, get_or-string_product, Supports, Covers, OthersStay, is_known, has_position}

-- one row changed

pub others-stay : (r : Rows) (a : ℕ) (p : Signed) → OthersStay a r (with_row r a p)
others-stay r a p = record { size = length-set r.rows a p; others = λ b ne. get_or-set_other r.rows a b p (identity r.qubits) ne }

pub made-others-stay : (r new : Rows) (a : ℕ) (p : Signed) → new ≡ with_row r a p → OthersStay a r new
made-others-stay r new a p e = subst (OthersStay a r) (sym e) (others-stay r a p)

pub again-others-stay : (r mid new : Rows) (a : ℕ) (p q : Signed) → mid ≡ with_row r a p → new ≡ with_row mid a q → OthersStay a r new
again-others-stay r mid new a p q made again =
    let before = made-others-stay r mid a p made in
    let after = made-others-stay mid new a q again in
    record { size = after.size ∙ before.size; others = λ b ne. after.others b ne ∙ before.others b ne }

-- letters that stay

pub letters-covered : (s : Supports) (old new : Rows) → length new.rows ≡ length old.rows
    → ((a : ℕ) → (row_at new a).letters ≡ (row_at old a).letters) → Covers s old → Covers s new
letters-covered s old new size same covers = record {
  groups = (let le = covers.groups in omega arith);
  holds = λ g k w p lk lw lp x known.
      covers.holds g k w p lk lw lp (ap (λ t. has_x (get_or t (64 * w + p) I)) (sym (same (64 * g + k))) ∙ x) known;
}

pub conjugated-covered : (s : Supports) (r new : Rows) (a : ℕ) (b : Bool) → a < length r.rows → new ≡ with_row r a (with_sign b (row_at r a)) → Covers s r → Covers s new
conjugated-covered s r new a b lt e =
    letters-covered s r new (ap (λ (t : Rows). length t.rows) e ∙ length-set r.rows a (with_sign b (row_at r a))) (λ c. by_position c (cases_order c a))
  where
    by_position : (c : ℕ) → (c ≡ a) ⊎ ((c < a) ⊎ (a < c)) → (row_at new c).letters ≡ (row_at r c).letters
    by_position c (inl here) =
        ap (λ (t : Rows). (row_at t c).letters) e
        ∙ ap (λ n. (row_at (with_row r a (with_sign b (row_at r a))) n).letters) here
        ∙ ap (λ (p : Signed). p.letters) (get_or-set_same r.rows a (with_sign b (row_at r a)) (identity r.qubits) lt)
        ∙ ap (λ n. (row_at r n).letters) (sym here)
    by_position c (inr (inl below)) = ap (λ (p : Signed). p.letters) ((made-others-stay r new a _ e).others c (omega arith))
    by_position c (inr (inr above)) = ap (λ (p : Signed). p.letters) ((made-others-stay r new a _ e).others c (omega arith))

-- chosen rows whose letters stay
pub chosen-covered : (s : Supports) (first mask : ℕ) (change : Bool → Signed → Signed) (old new : Rows)
    → ((k : ℕ) (p : Signed) → (change (chooses mask k) p).letters ≡ p.letters) → AreChosen first mask change old new → Covers s old → Covers s new
chosen-covered s first mask change old new stays chosen = letters-covered s old new chosen.size (λ a. by_start a (cases_lt a first))
  where
    by_end : (a : ℕ) → first ≤ a → (a < first + 64) ⊎ (first + 64 ≤ a) → (row_at new a).letters ≡ (row_at old a).letters
    by_end a le (inl lt) =
        let e : first + (a - first) ≡ a = omega arith in
        subst (λ n. (row_at new n).letters ≡ (row_at old n).letters) e
        (ap (λ (p : Signed). p.letters) (chosen.within (a - first) (omega arith)) ∙ stays (a - first) (row_at old (first + (a - first))))
    by_end a le (inr past) = ap (λ (p : Signed). p.letters) (chosen.others a (inr past))

    by_start : (a : ℕ) → (a < first) ⊎ (first ≤ a) → (row_at new a).letters ≡ (row_at old a).letters
    by_start a (inl lt) = ap (λ (p : Signed). p.letters) (chosen.others a (inl lt))
    by_start a (inr le) = by_end a le (cases_lt a (first + 64))

-- a row has a group
pub row-group : (s : Supports) (r : Rows) (a : ℕ) → Covers s r → a < length r.rows → a < 64 * length s.known
row-group s r a covers lt = let le = covers.groups in omega arith

-- positions added to a word

module _ (words : List ℕ) (at old positions : ℕ) (lt : at < length words) (read : old ≡ get_or words at old) where
  here : get_or (set words at (bit_or old positions)) at 0 ≡ bit_or (get_or words at 0) positions
  here = get_or-set_same words at (bit_or old positions) 0 lt ∙ ap (λ n. bit_or n positions) (read ∙ get_or_default words at old 0 lt)

  pub positions-added : (position : ℕ) → chooses positions position ≡ true → chooses (get_or (set words at (bit_or old positions)) at 0) position ≡ true
  positions-added position one = ap (λ n. chooses n position) here ∙ chosen-second (get_or words at 0) positions position one

  pub positions-unchanged : (a position : ℕ) → chooses (get_or words a 0) position ≡ true → chooses (get_or (set words at (bit_or old positions)) a 0) position ≡ true
  positions-unchanged a position one = by_position (cases_order a at)
    where
      distinct : a ≢ at → chooses (get_or (set words at (bit_or old positions)) a 0) position ≡ true
      distinct ne = ap (λ n. chooses n position) (get_or-set_other words at a (bit_or old positions) 0 ne) ∙ one

      by_position : (a ≡ at) ⊎ ((a < at) ⊎ (at < a)) → chooses (get_or (set words at (bit_or old positions)) a 0) position ≡ true
      by_position (inl e) =
          ap (λ n. chooses (get_or (set words at (bit_or old positions)) n 0) position) e ∙ ap (λ n. chooses n position) here
          ∙ chosen-first (get_or words at 0) positions position (ap (λ n. chooses (get_or words n 0) position) (sym e) ∙ one)
      by_position (inr (inl lt)) = distinct (omega arith)
      by_position (inr (inr gt)) = distinct (omega arith)

-- chosen rows multiplied by a string

x-product : (a b : Letter) → has_x (letter_product a b) ≡ true → (has_x a ≡ true) ⊎ (has_x b ≡ true)
x-product I b e = inr e
x-product X b e = inl refl
x-product Y b e = inl refl
x-product Z I e = inl e
x-product Z X e = inr refl
x-product Z Y e = inr refl
x-product Z Z e = inl e

x-multiplied : (b : Bool) (p q : Signed) (i : ℕ) → has_x (get_or (product_times_i_if b p q).letters i I) ≡ true
    → (has_x (get_or p.letters i I) ≡ true) ⊎ (has_x (get_or q.letters i I) ≡ true)
x-multiplied false p q i e = inl e
x-multiplied true p q i e = x-product (get_or p.letters i I) (get_or q.letters i I) (ap has_x (sym (get_or-string_product p.letters q.letters i)) ∙ e)

-- the words of their group got the positions of the string
pub multiplied-covered : (s new_s : Supports) (group mask : ℕ) (q : Signed) (old new : Rows) → new_s.known ≡ s.known
    → ((g word position : ℕ) → has_position s g word position ≡ true → has_position new_s g word position ≡ true)
    → ((word position : ℕ) → position < 64 → has_x (get_or q.letters (64 * word + position) I) ≡ true → has_position new_s group word position ≡ true)
    → AreChosen (64 * group) mask (λ b p. product_times_i_if b p q) old new → Covers s old → Covers new_s new
multiplied-covered s new_s group mask q old new same preserved added chosen covers = record {
  groups = (let e = ap length same in let f = chosen.size in let le = covers.groups in omega arith);
  holds = λ g k w p lk lw lp x known. by_group g k w p lk lw lp x (ap (λ l. chooses (get_or l g 0) w) (sym same) ∙ known) (cases_order g group);
}
  where
    by_group : (g k w p : ℕ) → k < 64 → w < 16 → p < 64 → has_x (get_or (row_at new (64 * g + k)).letters (64 * w + p) I) ≡ true → is_known s g w ≡ true
        → (g ≡ group) ⊎ ((g < group) ⊎ (group < g)) → has_position new_s g w p ≡ true
    by_group g k w p lk lw lp x known (inl e) =
        by_letter (x-multiplied (chooses mask k) (row_at old (64 * group + k)) q (64 * w + p)
        (ap (λ (t : Signed). has_x (get_or t.letters (64 * w + p) I)) (sym (chosen.within k lk)) ∙ ap (λ n. has_x (get_or (row_at new (64 * n + k)).letters (64 * w + p) I)) (sym e) ∙ x))
      where
        by_letter : (has_x (get_or (row_at old (64 * group + k)).letters (64 * w + p) I) ≡ true) ⊎ (has_x (get_or q.letters (64 * w + p) I) ≡ true)
            → has_position new_s g w p ≡ true
        by_letter (inl before) =
            preserved g w p (covers.holds g k w p lk lw lp (ap (λ n. has_x (get_or (row_at old (64 * n + k)).letters (64 * w + p) I)) e ∙ before) known)
        by_letter (inr there) = ap (λ n. has_position new_s n w p) e ∙ added w p lp there
    by_group g k w p lk lw lp x known (inr away) =
        preserved g w p (covers.holds g k w p lk lw lp (ap (λ (t : Signed). has_x (get_or t.letters (64 * w + p) I)) (sym (chosen.others (64 * g + k) (distinct away))) ∙ x) known)
      where
        distinct : (g < group) ⊎ (group < g) → (64 * g + k < 64 * group) ⊎ (64 * group + 64 ≤ 64 * g + k)
        distinct (inl lt) = inl (omega arith)
        distinct (inr gt) = inr (omega arith)
