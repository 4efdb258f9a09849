-- Words of which most are 0, from a position on, compared with others.
use Rattle.stab_pauli.proofs.Names.{◌≡◌, ℕ, ◌+◌, ◌-◌, ◌≤◌, refl, sym, ◌∙◌, ap, arith, append_assoc, length-append, List, [], ◌∷◌, ◌++◌, length, get_or, take, drop, replicate, take-add, append-nil, replicate-append-replicate, take_at, drop_at, length-take-le, bit_or, spread_next, words_from}

-- a block of words 0 has no bit
pub blank_determined : (xs : List ℕ) → xs ≡ replicate 8 0
    → bit_or (bit_or (bit_or (get_or xs 0 0) (get_or xs 1 0)) (bit_or (get_or xs 2 0) (get_or xs 3 0))) (bit_or (bit_or (get_or xs 4 0) (get_or xs 5 0)) (bit_or (get_or xs 6 0) (get_or xs 7 0))) ≡ 0
blank_determined xs e =
    ap (λ t. bit_or (bit_or (bit_or (get_or t 0 0) (get_or t 1 0)) (bit_or (get_or t 2 0) (get_or t 3 0))) (bit_or (bit_or (get_or t 4 0) (get_or t 5 0)) (bit_or (get_or t 6 0) (get_or t 7 0)))) e

-- eight words 0, of a gap of as many or more
pub eight-blank : (gs ks : List ℕ) (b n g : ℕ) → 8 ≤ g → (take 8 (words_from gs ks b n g) ≡ replicate 8 0) × (words_from gs ks b n (g - 8) ≡ drop 8 (words_from gs ks b n g))
eight-blank gs ks b n g le = (ap (take 8) split ∙ take_at (replicate 8 0) rest 8 refl, sym (ap (drop 8) split ∙ drop_at (replicate 8 0) rest 8 refl))
  where
    rest : List ℕ
    rest = words_from gs ks b n (g - 8)

    split : words_from gs ks b n g ≡ replicate 8 0 ++ rest
    split =
        ap (λ m. words_from gs ks b n m) (omega arith)
        ∙ ap (λ t. t ++ spread_next (drop (n + 1) gs) (drop n ks) b) (sym (replicate-append-replicate 8 (g - 8) 0))

-- words that begin with the first k of others, and go on with the next n of these
pub passed-more : (whole words rest part new : List ℕ) (k n m : ℕ) → m ≡ k + n → whole ≡ take k words ++ rest → rest ≡ part ++ new → part ≡ take n (drop k words)
    → whole ≡ take m words ++ new
passed-more whole words rest part new k n m e before here same =
    before
    ∙ ap (λ t. take k words ++ t) here
    ∙ sym (append_assoc (take k words) part new)
    ∙ ap (λ t. (take k words ++ t) ++ new) same
    ∙ ap (λ t. t ++ new) (sym (take-add k n words))
    ∙ ap (λ i. take i words ++ new) (sym e)

-- if they are these, they must go on in the same way
pub passed-determined : (whole words rest : List ℕ) (k n m : ℕ) → m ≡ n → k ≤ length words → whole ≡ take k words ++ rest → whole ≡ words → take n rest ≡ take m (drop k words)
passed-determined whole words rest k n m e le before all =
    ap (take n) (sym (ap (drop k) before ∙ drop_at (take k words) rest k (length-take-le k words le)) ∙ ap (drop k) all)
    ∙ ap (λ i. take i (drop k words)) (sym e)

-- if they begin with all of them and are as many, they are these
pub passed-all : (whole words rest : List ℕ) (k : ℕ) → whole ≡ take k words ++ rest → take k words ≡ words → length words ≡ length whole → whole ≡ words
passed-all whole words rest k before all l = before ∙ (λ i. all i ++ none rest empty i) ∙ append-nil words
  where
    none : (xs : List ℕ) → length xs ≡ 0 → xs ≡ []
    none [] e = refl
    none (x ∷ xs) e = absurd (omega (arith, e))

    empty : length rest ≡ 0
    empty = let e = ap length before ∙ length-append (take k words) rest in let f = ap length all in omega (arith, e, f, l)
