-- Going over a list: what is left of it, and what was passed.
use Rattle.stab_search.proofs.Names.{◌≡◌, ◌≢◌, ℕ, zero, suc, ◌+◌, ◌≤◌, ◌<◌, ◌⊎◌, inl, inr, sym, ◌∙◌, ap, subst, arith, Bool, true, false, ◌||◌, List, [], ◌∷◌, ◌++◌, length, get_or, take, drop, drop-cons, drop_of_length-le, false≢true, eqb-true, eqb-false, ◌==◌, if◌then◌else◌, ◌⊕◌, IsAscending, odd, row, flipped_by_rows, ForEach, has, shares}
use Rattle.stab_parities.proofs.AscendingLemmas.{named-ascending}
use Rattle.stab_search.proofs.FlipLemmas.{flips-push}
use Rattle.stab_search.proofs.ListLemmas.{by-bit, each-push, has-here, has-there}
use Rattle.stab_search.proofs.ShortestLemmas.{take-push}

-- what is left has the next one first
next-left : (xs : List ℕ) (k : ℕ) → k < length xs → drop k xs ≡ get_or xs k 0 ∷ drop (k + 1) xs
next-left xs k lt = let next : suc k ≡ k + 1 = omega arith in drop-cons xs k 0 lt ∙ ap (λ n. get_or xs k 0 ∷ drop n xs) next

-- one that is left is the next, or is left after it
pub left-over : {P : Type 0} (e : ℕ) (xs : List ℕ) (k : ℕ) → k < length xs → has e (drop k xs) ≡ true → (get_or xs k 0 ≡ e → P) → (has e (drop (k + 1) xs) ≡ true → P) → P
left-over e xs k lt there here later =
    by-bit (get_or xs k 0 == e)
    (λ same. here (eqb-true (get_or xs k 0) e same))
    (λ other. later (ap (λ b. b || has e (drop (k + 1) xs)) (sym other) ∙ sym (ap (has e) (next-left xs k lt)) ∙ there))

-- none is left at the end
pub none-left : {P : Type 0} (e : ℕ) (xs : List ℕ) (k : ℕ) → length xs ≤ k → has e (drop k xs) ≡ true → P
none-left e xs k past there = absurd (false≢true (sym (ap (has e) (drop_of_length-le xs past)) ∙ there))

-- each one of a list is among it
pub is-among : (xs : List ℕ) (k : ℕ) → k < length xs → has (get_or xs k 0) xs ≡ true
is-among [] k lt = absurd (omega arith)
is-among (x ∷ xs) zero lt = has-here x xs
is-among (x ∷ xs) (suc k) lt = has-there (get_or xs k 0) x xs (is-among xs k (omega arith))

-- one that is not among a list is none of it
pub is-other : (e : ℕ) (xs : List ℕ) (k : ℕ) → k < length xs → has e xs ≡ false → get_or xs k 0 ≢ e
is-other e xs k lt none same = false≢true (sym none ∙ subst (λ r. has r xs ≡ true) same (is-among xs k lt))

-- what was passed has one more

pub passed : (xs : List ℕ) (k : ℕ) → k < length xs → take (k + 1) xs ≡ take k xs ++ get_or xs k 0 ∷ []
passed xs k lt = let next : k + 1 ≡ suc k = omega arith in ap (λ n. take n xs) next ∙ take-push xs k 0 lt

pub each-passed : (P : ℕ → Type 0) (xs : List ℕ) (k : ℕ) → k < length xs → ForEach P (take k xs) → P (get_or xs k 0) → ForEach P (take (k + 1) xs)
each-passed P xs k lt each here = subst (ForEach P) (sym (passed xs k lt)) (each-push P (take k xs) (get_or xs k 0) here each)

pub flips-passed : (rows : List (List ℕ)) (xs : List ℕ) (k i : ℕ) → k < length xs
    → flipped_by_rows rows (take (k + 1) xs) i ≡ flipped_by_rows rows (take k xs) i ⊕ odd i (row rows (get_or xs k 0))
flips-passed rows xs k i lt = ap (λ l. flipped_by_rows rows l i) (passed xs k lt) ∙ flips-push rows (take k xs) (get_or xs k 0) i

shares-push : (rows : List (List ℕ)) (e : ℕ) (ds : List ℕ) (d : ℕ) → shares rows e (ds ++ d ∷ []) ≡ shares rows e ds + (if odd d (row rows e) then 1 else 0)
shares-push rows e [] d = omega arith
shares-push rows e (x ∷ xs) d = let later = shares-push rows e xs d in omega arith

pub shares-passed : (rows : List (List ℕ)) (e : ℕ) (ds : List ℕ) (k : ℕ) → k < length ds
    → shares rows e (take (k + 1) ds) ≡ shares rows e (take k ds) + (if odd (get_or ds k 0) (row rows e) then 1 else 0)
shares-passed rows e ds k lt = ap (shares rows e) (passed ds k lt) ∙ shares-push rows e (take k ds) (get_or ds k 0)

pub shares-within : (rows : List (List ℕ)) (e : ℕ) (ds : List ℕ) → shares rows e ds ≤ length ds
shares-within rows e [] = omega arith
shares-within rows e (d ∷ ds) = let later = shares-within rows e ds in by_bit (odd d (row rows e)) later
  where
    by_bit : (b : Bool) → shares rows e ds ≤ length ds → (if b then 1 else 0) + shares rows e ds ≤ suc (length ds)
    by_bit true later = omega arith
    by_bit false later = omega arith

-- numbers of an ascending list are there an odd number of times
pub each-odd : (xs ys : List ℕ) → IsAscending ys → ((g : ℕ) → has g xs ≡ true → has g ys ≡ true) → ForEach (λ d. odd d ys ≡ true) xs
each-odd [] ys a among = tt
each-odd (x ∷ xs) ys a among =
    (sym (named-ascending ys x a) ∙ among x (has-here x xs), each-odd xs ys a (λ g there. among g (has-there g x xs there)))

pub taken-among : (g n : ℕ) (xs : List ℕ) → has g (take n xs) ≡ true → has g xs ≡ true
taken-among g zero xs e = absurd (false≢true e)
taken-among g (suc n) [] e = absurd (false≢true e)
taken-among g (suc n) (x ∷ xs) e =
    by-bit (x == g)
    (λ same. ap (λ b. b || has g xs) same)
    (λ other. has-there g x xs (taken-among g n xs (ap (λ b. b || has g (take n xs)) (sym other) ∙ e)))

-- one that is left with its count, and others are set to 0 only after they are taken
pub take-left : (e : ℕ) (xs : List ℕ) (k : ℕ) (before after : List ℕ) (cover now next : List ℕ) → k < length xs
    → (has e before ≡ true) ⊎ ((has e (drop k xs) ≡ true) × (get_or now e 0 ≡ get_or cover e 0))
    → (has e before ≡ true → has e after ≡ true)
    → (get_or xs k 0 ≡ e → get_or now e 0 ≡ get_or cover e 0 → has e after ≡ true)
    → (get_or xs k 0 ≢ e → get_or next e 0 ≡ get_or now e 0)
    → (has e after ≡ true) ⊎ ((has e (drop (k + 1) xs) ≡ true) × (get_or next e 0 ≡ get_or cover e 0))
take-left e xs k before after cover now next lt (inl there) preserved taken others = inl (preserved there)
take-left e xs k before after cover now next lt (inr left) preserved taken others =
    by-bit (get_or xs k 0 == e)
    (λ same. inl (taken (eqb-true (get_or xs k 0) e same) left.1))
    (λ other.
    inr (left-over e xs k lt left.0 (λ same. absurd (eqb-false (get_or xs k 0) e other same)) (λ later. later), others (eqb-false (get_or xs k 0) e other) ∙ left.1))
