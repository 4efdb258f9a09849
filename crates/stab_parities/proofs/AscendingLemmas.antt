-- Ascending lists: merged ones ascend, and a number is in one once or not at all.
use Rattle.stab_parities.proofs.Names.{◌≡◌, ℕ, suc, ◌+◌, ◌≤◌, ◌<◌, ◌⊎◌, inl, inr, refl, sym, ◌∙◌, ap, subst, arith, Bool, true, false, ◌||◌, List, [], ◌∷◌, ◌++◌, append-nil, append_assoc, drop-cons, length, drop, get_or, ne_eqb, ◌==◌, list_any, eqb-true, drop_of_length-le, ◌⊕◌, AscendsFrom, IsAscending, odd}

ascends-lower : (m k : ℕ) (xs : List ℕ) → m ≤ k → AscendsFrom k xs → AscendsFrom m xs
ascends-lower m k [] le a = tt
ascends-lower m k (x ∷ xs) le a = (let h = a.0 in omega arith, a.1)

-- one list goes on with a number, and the other with a greater one, which may then follow it
ascends-push : (m : ℕ) (ms : List ℕ) (x : ℕ) (xs : List ℕ) (y : ℕ) (ys : List ℕ) → x < y → AscendsFrom m (ms ++ x ∷ xs) → AscendsFrom m (ms ++ y ∷ ys)
    → AscendsFrom m (ms ++ x ∷ y ∷ ys)
ascends-push m [] x xs y ys lt a b = (a.0, (omega arith, b.1))
ascends-push m (k ∷ ms) x xs y ys lt a b = (a.0, ascends-push (k + 1) ms x xs y ys lt a.1 b.1)

-- a number is left out
ascends-skip : (m : ℕ) (ms : List ℕ) (x : ℕ) (xs : List ℕ) → AscendsFrom m (ms ++ x ∷ xs) → AscendsFrom m (ms ++ xs)
ascends-skip m [] x xs a = ascends-lower m (x + 1) xs (let h = a.0 in omega arith) a.1
ascends-skip m (k ∷ ms) x xs a = (a.0, ascends-skip (k + 1) ms x xs a.1)

-- the rest of a list that is there
rest : (xs : List ℕ) (k d : ℕ) → k < length xs → drop k xs ≡ get_or xs k d ∷ drop (k + 1) xs
rest xs k d lt =
    let next : suc k ≡ k + 1 = omega arith in
    drop-cons xs k d lt ∙ ap (λ j. get_or xs k d ∷ drop j xs) next

-- what a merge has goes on with what is left of either list

-- its next number
pub ascends-next : (merged xs : List ℕ) (k d : ℕ) → k < length xs → IsAscending (merged ++ drop k xs) → IsAscending ((merged ++ get_or xs k d ∷ []) ++ drop (k + 1) xs)
ascends-next merged xs k d lt a =
    subst IsAscending (ap (λ ys. merged ++ ys) (rest xs k d lt) ∙ sym (append_assoc merged (get_or xs k d ∷ []) (drop (k + 1) xs))) a

-- and that of the other, which is less
pub ascends-less : (merged xs ys : List ℕ) (k j d e : ℕ) → k < length xs → j < length ys → get_or xs k d < get_or ys j e
    → IsAscending (merged ++ drop k xs) → IsAscending (merged ++ drop j ys) → IsAscending ((merged ++ get_or xs k d ∷ []) ++ drop j ys)
ascends-less merged xs ys k j d e lk lj lt a b =
    subst IsAscending
    (ap (λ zs. merged ++ get_or xs k d ∷ zs) (sym (rest ys j e lj)) ∙ sym (append_assoc merged (get_or xs k d ∷ []) (drop j ys)))
    (ascends-push 0 merged (get_or xs k d) (drop (k + 1) xs) (get_or ys j e) (drop (j + 1) ys) lt
    (subst (λ zs. IsAscending (merged ++ zs)) (rest xs k d lk) a)
    (subst (λ zs. IsAscending (merged ++ zs)) (rest ys j e lj) b))

-- its next number is left out
pub ascends-left_out : (merged xs : List ℕ) (k d : ℕ) → k < length xs → IsAscending (merged ++ drop k xs) → IsAscending (merged ++ drop (k + 1) xs)
ascends-left_out merged xs k d lt a =
    ascends-skip 0 merged (get_or xs k d) (drop (k + 1) xs) (subst (λ zs. IsAscending (merged ++ zs)) (rest xs k d lt) a)

-- at the end one list has nothing left
pub ascends-end : (merged xs ys : List ℕ) (k j : ℕ) → (length xs ≤ k) ⊎ (length ys ≤ j) → IsAscending (merged ++ drop k xs) → IsAscending (merged ++ drop j ys)
    → IsAscending ((merged ++ drop k xs) ++ drop j ys)
ascends-end merged xs ys k j (inl le) a b =
    let none : drop k xs ≡ [] = drop_of_length-le xs le in
    subst (λ zs. IsAscending (zs ++ drop j ys)) (sym (ap (λ zs. merged ++ zs) none ∙ append-nil merged)) b
ascends-end merged xs ys k j (inr le) a b =
    let none : drop j ys ≡ [] = drop_of_length-le ys le in
    subst IsAscending (sym (ap (λ zs. (merged ++ drop k xs) ++ zs) none ∙ append-nil (merged ++ drop k xs))) a

-- a number below all of a list is not in it
pub odd-below : (m : ℕ) (ks : List ℕ) (i : ℕ) → AscendsFrom m ks → i < m → odd i ks ≡ false
odd-below m [] i a lt = refl
odd-below m (k ∷ ks) i a lt =
    let here : (k == i) ≡ false = ne_eqb k i (λ e. let h = a.0 in omega arith) in
    ap (λ b. b ⊕ odd i ks) here ∙ odd-below (k + 1) ks i a.1 (let h = a.0 in omega arith)

-- a number is in an ascending list if it is named an odd number of times
named-odd : (m : ℕ) (ks : List ℕ) (i : ℕ) → AscendsFrom m ks → list_any (λ k. k == i) ks ≡ odd i ks
named-odd m [] i a = refl
named-odd m (k ∷ ks) i a = by_bit (k == i) refl (named-odd (k + 1) ks i a.1)
  where
    by_bit : (b : Bool) → (k == i) ≡ b → list_any (λ j. j == i) ks ≡ odd i ks → ((k == i) || list_any (λ j. j == i) ks) ≡ (k == i) ⊕ odd i ks
    by_bit true e later =
        let same : k ≡ i = eqb-true k i e in
        ap (λ b. b || list_any (λ j. j == i) ks) e
        ∙ ap (λ b. true ⊕ b) (sym (odd-below (k + 1) ks i a.1 (omega arith)))
        ∙ ap (λ b. b ⊕ odd i ks) (sym e)
    by_bit false e later = ap (λ b. b || list_any (λ j. j == i) ks) e ∙ later ∙ ap (λ b. b ⊕ odd i ks) (sym e)

pub named-ascending : (ks : List ℕ) (i : ℕ) → IsAscending ks → list_any (λ k. k == i) ks ≡ odd i ks
named-ascending ks i a = named-odd 0 ks i a
