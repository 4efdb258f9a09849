-- The errors that an assignment has: what they flip, and an assignment for a set of errors.
use Rattle.stab_search.proofs.Names.{◌≡◌, ℕ, zero, suc, ◌+◌, ◌-◌, ◌<◌, ◌≤◌, ◌⊎◌, inl, inr, refl, sym, ◌∙◌, subst, ap, ap₂, arith, Bool, true, false, List, [], ◌∷◌, ◌++◌, length, ◌&&◌, ◌||◌, ◌==◌, cond, cases_eq, eq-eqb, ne_eqb, nat_lt, append_assoc, length-append, All, All-head, All-tail, filter, range_with_len, list_any, ◌⊕◌, odd, flipped_by_rows, row, AscendsFrom, IsAscending, errors_in, flipped_in_sum}
use Rattle.std.proofs.lemmas.Bool.{lt-ltb, le-ltb}
use Rattle.std.proofs.lemmas.List.Elements.{All-filter}
use Rattle.std.proofs.lemmas.List.FromFn.{length-range_with_len, get_or-range_with_len}

-- the row in the middle
row-mid : (front back : List (List ℕ)) (r : List ℕ) → row (front ++ r ∷ back) (length front) ≡ r
row-mid [] back r = refl
row-mid (x ∷ front) back r = row-mid front back r

-- what the errors flip that an assignment has of the last rows
flips-rest : (a : ℕ → Bool) (front back : List (List ℕ)) (i : ℕ)
    → flipped_by_rows (front ++ back) (filter (λ k. a (k + 1)) (range_with_len (length front) (length back))) i ≡ flipped_in_sum a (length front + 1) back i
flips-rest a front [] i = refl
flips-rest a front (r ∷ back) i = by (flips-rest a (front ++ r ∷ []) back i) (a (length front + 1)) refl
  where
    rest : ℕ → List ℕ
    rest m = filter (λ k. a (k + 1)) (range_with_len m (length back))

    more : flipped_by_rows ((front ++ r ∷ []) ++ back) (rest (length (front ++ r ∷ []))) i ≡ flipped_in_sum a (length (front ++ r ∷ []) + 1) back i
        → flipped_by_rows (front ++ r ∷ back) (rest (length front + 1)) i ≡ flipped_in_sum a (length front + 1 + 1) back i
    more is =
        subst (λ l. flipped_by_rows l (rest (length front + 1)) i ≡ flipped_in_sum a (length front + 1 + 1) back i) (append_assoc front (r ∷ []) back)
        (subst (λ m. flipped_by_rows ((front ++ r ∷ []) ++ back) (rest m) i ≡ flipped_in_sum a (m + 1) back i) (length-append front (r ∷ []) ∙ omega arith) is)

    by : flipped_by_rows ((front ++ r ∷ []) ++ back) (rest (length (front ++ r ∷ []))) i ≡ flipped_in_sum a (length (front ++ r ∷ []) + 1) back i
        → (b : Bool) → a (length front + 1) ≡ b
        → flipped_by_rows (front ++ r ∷ back) (cond (a (length front + 1)) (length front ∷ rest (length front + 1)) (rest (length front + 1))) i
        ≡ (a (length front + 1) && odd i r) ⊕ flipped_in_sum a (length front + 1 + 1) back i
    by later true is = rw is (ap₂ (λ x y. odd i x ⊕ y) (row-mid front back r) (more later))
    by later false is = rw is (more later)

pub flips-chosen : (a : ℕ → Bool) (rows : List (List ℕ)) (i : ℕ) → flipped_by_rows rows (errors_in a (length rows)) i ≡ flipped_in_sum a 1 rows i
flips-chosen a rows i = flips-rest a [] rows i

-- each of them is one of the rows
pub chosen-within : (test : ℕ → Bool) (m n : ℕ) → All (λ r. r < m + n) (filter test (range_with_len m n))
chosen-within test m n =
    All-filter test (λ v. v < m + n) (range_with_len m n)
    (λ k d less. let inside : k < n = subst (λ l. k < l) (length-range_with_len m n) less in subst (λ v. v < m + n) (sym (get_or-range_with_len m n k d inside)) (omega (arith, inside)))

-- whether a number is in a list
abbrev pub among : ℕ → List ℕ → Bool
among k ks = list_any (λ x. x == k) ks

among-below : (j m : ℕ) (ks : List ℕ) → AscendsFrom m ks → j < m → among j ks ≡ false
among-below j m [] ascends less = refl
among-below j m (k ∷ ks) ascends less =
    ap₂ ◌||◌ (ne_eqb k j (omega (arith, ascends.0, less))) (among-below j (k + 1) ks ascends.1 (omega (arith, ascends.0, less)))

-- the numbers of an ascending list, chosen from all
filter-set : (test : ℕ → Bool) (m n : ℕ) (ks : List ℕ) → AscendsFrom m ks → All (λ k. k < m + n) ks
    → ((k : ℕ) → m ≤ k → k < m + n → test k ≡ among k ks) → filter test (range_with_len m n) ≡ ks
filter-set test m zero [] ascends below is = refl
filter-set test m zero (k ∷ ks) ascends below is = absurd (omega (arith, ascends.0, All-head (λ j. j < m + zero) k ks below))
filter-set test m (suc n) [] ascends below is =
    ap (λ b. cond b (m ∷ filter test (range_with_len (m + 1) n)) (filter test (range_with_len (m + 1) n))) (is m (omega arith) (omega arith))
    ∙ filter-set test (m + 1) n [] tt (λ k d less. absurd (omega (arith, less))) (λ k from to. is k (omega (arith, from)) (omega (arith, to)))
filter-set test m (suc n) (k ∷ ks) ascends below is = by (cases_eq k m)
    (λ here.
    filter-set test (m + 1) n ks (subst (λ x. AscendsFrom (x + 1) ks) here ascends.1) (subst (λ x. All (λ j. j < x) ks) (omega arith) (All-tail (λ j. j < m + suc n) k ks below))
    (λ j from to. is j (omega (arith, from)) (omega (arith, to)) ∙ ap (λ b. b || among j ks) (ne_eqb k j (omega (arith, here, from)))))
    (λ other.
    filter-set test (m + 1) n (k ∷ ks) (above other, ascends.1) (subst (λ x. All (λ j. j < x) (k ∷ ks)) (omega arith) below)
    (λ j from to. is j (omega (arith, from)) (omega (arith, to))))
  where
    rest : List ℕ
    rest = filter test (range_with_len (m + 1) n)

    above : (k ≡ m → ⊥) → m + 1 ≤ k
    above other = omega (arith, ascends.0, other)

    by : (k ≡ m) ⊎ (k ≡ m → ⊥) → (k ≡ m → rest ≡ ks) → ((k ≡ m → ⊥) → rest ≡ k ∷ ks) → cond (test m) (m ∷ rest) rest ≡ k ∷ ks
    by (inl here) at beyond =
        ap (λ b. cond b (m ∷ rest) rest) (is m (omega arith) (omega arith) ∙ ap (λ b. b || among m ks) (eq-eqb k m here)) ∙ ap₂ ◌∷◌ (sym here) (at here)
    by (inr other) at beyond =
        ap (λ b. cond b (m ∷ rest) rest) (is m (omega arith) (omega arith) ∙ among-below m (m + 1) (k ∷ ks) (above other, ascends.1) (omega arith)) ∙ beyond other

-- an assignment that has these errors, of n, and in which the variables after those of errors are true
pub of_set : (n : ℕ) → List ℕ → ℕ → Bool
of_set n ks v = nat_lt n v || among (v - 1) ks

pub of_set-after : (n : ℕ) (ks : List ℕ) → of_set n ks (n + 1) ≡ true
unfolding of_set
of_set-after n ks = ap (λ b. b || among ((n + 1) - 1) ks) (lt-ltb n (n + 1) (omega arith))

of_set-error : (n k : ℕ) (ks : List ℕ) → k < n → of_set n ks (k + 1) ≡ among k ks
unfolding of_set
of_set-error n k ks less = ap₂ (λ b j. b || among j ks) (le-ltb n (k + 1) (omega (arith, less))) (omega arith)

-- any assignment that agrees with it on errors has these errors
pub chosen-set : (a : ℕ → Bool) (n : ℕ) (ks : List ℕ) → IsAscending ks → All (λ k. k < n) ks → ((k : ℕ) → k < n → a (k + 1) ≡ of_set n ks (k + 1)) → errors_in a n ≡ ks
chosen-set a n ks ascends below is =
    filter-set (λ k. a (k + 1)) 0 n ks ascends (subst (λ x. All (λ k. k < x) ks) (omega arith) below)
    (λ k from to. let less : k < n = omega (arith, to) in is k less ∙ of_set-error n k ks less)
