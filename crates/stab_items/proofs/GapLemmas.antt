-- Gaps as numbers: more on the last, and rounds of them.
use Rattle.stab_items.proofs.Names.{◌≡◌, ◌<◌, refl, ap, sym, ◌∙◌, ℕ, ◌+◌, ◌-◌, ◌*◌, suc, zero, List, [], ◌∷◌, ◌++◌, length, take, map, arith, append_assoc, append-nil, length-append, take_at, map-append, Step, round_pieces, with_more, copies, round_gaps}

-- more on the last of some numbers
pub more-last : (n x : ℕ) (xs : List ℕ) → with_more n (xs ++ x ∷ []) ≡ xs ++ (x + n) ∷ []
more-last n x [] = refl
more-last n x (y ∷ []) = refl
more-last n x (y ∷ z ∷ zs) = ap (λ l. y ∷ l) (more-last n x (z ∷ zs))

pub more-none : (xs : List ℕ) → with_more 0 xs ≡ xs
more-none [] = refl
more-none (x ∷ []) = ap (λ n. n ∷ []) (omega arith)
more-none (x ∷ y ∷ ys) = ap (λ l. x ∷ l) (more-none (y ∷ ys))

pub more-twice : (m n : ℕ) (xs : List ℕ) → with_more m (with_more n xs) ≡ with_more (n + m) xs
more-twice m n [] = refl
more-twice m n (x ∷ []) = ap (λ k. k ∷ []) (omega arith)
more-twice m n (x ∷ y ∷ []) = ap (λ k. x ∷ k ∷ []) (omega arith)
more-twice m n (x ∷ y ∷ z ∷ zs) = ap (λ l. x ∷ l) (more-twice m n (y ∷ z ∷ zs))

pub length-more : (n : ℕ) (xs : List ℕ) → length (with_more n xs) ≡ length xs
length-more n [] = refl
length-more n (x ∷ []) = refl
length-more n (x ∷ y ∷ ys) = ap suc (length-more n (y ∷ ys))

more-following : (n : ℕ) (xs : List ℕ) (y : ℕ) (ys : List ℕ) → with_more n (xs ++ y ∷ ys) ≡ xs ++ with_more n (y ∷ ys)
more-following n [] y ys = refl
more-following n (x ∷ []) y ys = refl
more-following n (x ∷ z ∷ zs) y ys = ap (λ l. x ∷ l) (more-following n (z ∷ zs) y ys)

-- more on the last of two lists, of which the second is empty only if the first is
more-append : (n : ℕ) (xs ys : List ℕ) → (ys ≡ [] → xs ≡ []) → with_more n (xs ++ ys) ≡ xs ++ with_more n ys
more-append n xs [] h = ap (λ l. with_more n (l ++ [])) (h refl) ∙ sym (append-nil xs ∙ h refl)
more-append n xs (y ∷ ys) h = more-following n xs y ys

empty_front : (xs ys : List ℕ) → xs ++ ys ≡ [] → xs ≡ []
empty_front [] ys e = refl
empty_front (x ∷ xs) ys e = absurd (omega (arith, ap length e))

-- rounds of gaps are empty only if those of one are
no_rounds : (n lead : ℕ) (gaps : List ℕ) → round_gaps (suc n) lead gaps ≡ [] → with_more lead gaps ≡ []
no_rounds zero lead gaps e = ap (with_more lead) e
no_rounds (suc n) lead gaps e = empty_front (with_more lead gaps) (round_gaps (suc n) lead gaps) e

pub length-rounds : (n lead : ℕ) (gaps : List ℕ) → length (round_gaps n lead gaps) ≡ n * length gaps
length-rounds zero lead gaps = omega arith
length-rounds (suc zero) lead gaps = omega arith
length-rounds (suc (suc n)) lead gaps =
    let front = length-more lead gaps in
    let rest = length-rounds (suc n) lead gaps in
    let both = length-append (with_more lead gaps) (round_gaps (suc n) lead gaps) in
    omega (arith, front, rest, both)

-- copies of numbers, of which the last goes on

pub copies-more : (n : ℕ) (xs : List ℕ) → copies (suc n) xs ≡ copies n xs ++ xs
copies-more zero xs = append-nil xs
copies-more (suc n) xs = ap (λ l. xs ++ l) (copies-more n xs) ∙ sym (append_assoc xs (copies n xs) xs)

-- the copies without the last number
abbrev front_of : ℕ → (xs : List ℕ) → ℕ → List ℕ
front_of zero xs y = xs
front_of (suc n) xs y = (xs ++ y ∷ []) ++ front_of n xs y

copies-front : (n : ℕ) (xs : List ℕ) (y : ℕ) → copies (suc n) (xs ++ y ∷ []) ≡ front_of n xs y ++ y ∷ []
copies-front zero xs y = append-nil (xs ++ y ∷ [])
copies-front (suc n) xs y = ap (λ l. (xs ++ y ∷ []) ++ l) (copies-front n xs y) ∙ sym (append_assoc (xs ++ y ∷ []) (front_of n xs y) (y ∷ []))

rounds-front : (n lead x : ℕ) (xs : List ℕ) → front_of n xs (x + lead) ++ x ∷ [] ≡ round_gaps (suc n) lead (xs ++ x ∷ [])
rounds-front zero lead x xs = refl
rounds-front (suc n) lead x xs =
    append_assoc (xs ++ (x + lead) ∷ []) (front_of n xs (x + lead)) (x ∷ [])
    ∙ ap (λ l. (xs ++ (x + lead) ∷ []) ++ l) (rounds-front n lead x xs)
    ∙ ap (λ l. l ++ round_gaps (suc n) lead (xs ++ x ∷ [])) (sym (more-last lead x xs))

-- the lengths of pieces of rounds
pub lengths-rounds : (n : ℕ) (round : List Step → List (List Step)) (lead following : List Step) → ((b : List Step) → map length (round b) ≡ with_more (length b) (map length (round [])))
    → map length (round_pieces n round lead following) ≡ with_more (length following) (round_gaps n (length lead) (map length (round [])))
lengths-rounds zero round lead following h = refl
lengths-rounds (suc zero) round lead following h = h following
lengths-rounds (suc (suc n)) round lead following h =
    let gaps = map length (round []) in
    map-append length (round lead) (round_pieces (suc n) round lead following)
    ∙ ap (λ l. l ++ map length (round_pieces (suc n) round lead following)) (h lead)
    ∙ ap (λ l. with_more (length lead) gaps ++ l) (lengths-rounds (suc n) round lead following h)
    ∙ sym (more-append (length following) (with_more (length lead) gaps) (round_gaps (suc n) (length lead) gaps) (no_rounds n (length lead) gaps))

-- the same, if the last of the copies was taken off
pub rounds-popped : (n lead x k : ℕ) (xs all front : List ℕ) → 0 < n → all ≡ copies n (xs ++ (x + lead) ∷ []) → length all ≡ k → front ≡ take (k - 1) all
    → front ++ x ∷ [] ≡ round_gaps n lead (xs ++ x ∷ [])
rounds-popped zero lead x k xs all front h e long f = absurd (omega (arith, h))
rounds-popped (suc n) lead x k xs all front h e long f =
    let rest = front_of n xs (x + lead) in
    let last = (x + lead) ∷ [] in
    let whole : all ≡ rest ++ last = e ∙ copies-front n xs (x + lead) in
    let shorter : length rest ≡ k - 1 = omega (arith, ap length whole, length-append rest last, long) in
    ap (λ l. l ++ x ∷ []) (f ∙ ap (take (k - 1)) whole ∙ take_at rest last (k - 1) shorter) ∙ rounds-front n lead x xs

-- no gaps in a round, and so none in all
pub no-gaps : (n lead : ℕ) (gaps front : List ℕ) → gaps ≡ front ++ [] → length gaps ≡ 0 → front ≡ round_gaps n lead gaps
no-gaps n lead [] front e h = sym (append-nil front) ∙ sym e ∙ sym (none_in n lead)
  where
    none_in : (n lead : ℕ) → round_gaps n lead [] ≡ []
    none_in zero lead = refl
    none_in (suc zero) lead = refl
    none_in (suc (suc n)) lead = none_in (suc n) lead
no-gaps n lead (x ∷ xs) front e h = absurd (omega (arith, h))
