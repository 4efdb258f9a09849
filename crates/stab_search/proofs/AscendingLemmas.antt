-- Ascending lists: a number beyond the last one is not there.
use Rattle.stab_search.proofs.Names.{◌≡◌, ℕ, suc, ◌+◌, ◌≤◌, ◌<◌, refl, ◌∙◌, ap, arith, false, List, [], ◌∷◌, length, get_or, ne_eqb, ◌==◌, ◌⊕◌, AscendsFrom, IsAscending, odd, ForEach}

-- each is below what the last is below
each-below : (m n : ℕ) (xs : List ℕ) → AscendsFrom m xs → ((k : ℕ) → k + 1 ≡ length xs → get_or xs k 0 < n) → ForEach (λ x. x < n) xs
each-below m n [] a last = tt
each-below m n (x ∷ []) a last = (last 0 (omega arith), tt)
each-below m n (x ∷ y ∷ ys) a last =
    let later = each-below (x + 1) n (y ∷ ys) a.1 (λ k e. last (suc k) (omega arith)) in
    let here = later.0 in
    let less = a.1.0 in
    (omega arith, later)

odd-above : (n : ℕ) (xs : List ℕ) (i : ℕ) → ForEach (λ x. x < n) xs → n ≤ i → odd i xs ≡ false
odd-above n [] i a le = refl
odd-above n (x ∷ xs) i a le =
    let here : (x == i) ≡ false = ne_eqb x i (λ e. let h = a.0 in omega arith) in
    ap (λ b. b ⊕ odd i xs) here ∙ odd-above n xs i a.1 le

-- a number beyond the last one is not in it
pub odd-beyond : (xs : List ℕ) (k i : ℕ) → IsAscending xs → k + 1 ≡ length xs → get_or xs k 0 + 1 ≤ i → odd i xs ≡ false
odd-beyond xs k i a count le =
    odd-above (get_or xs k 0 + 1) xs i
    (each-below 0 (get_or xs k 0 + 1) xs a (λ j e. let same : j ≡ k = omega arith in let at = ap (λ n. get_or xs n 0) same in omega arith))
    le
