-- Set bits: their number, and whether it is odd.
use Rattle.stab_pauli.proofs.Names.{◌≡◌, ℕ, zero, suc, ◌+◌, ◌*◌, ◌/◌, ◌%◌, ◌^◌, ◌<◌, refl, sym, ◌∙◌, ap, arith, eqb, List, [], ◌∷◌, ◌++◌, length, get_or, bit_xor, zip2, pick_l, ones, ones_step, ones-ones, pow-suc, ◌⊕◌, lowest, word_odd, words_odd, word_ones, parity-false, parity-assoc, parity-mid}
use Rattle.stab_pauli.proofs.BitLemmas.{half_xor, lowest_xor, lowest_add}

-- one word

pub word_odd-xor : (k a b : ℕ) → word_odd k (bit_xor a b) ≡ word_odd k a ⊕ word_odd k b
unfolding word_odd
word_odd-xor zero a b = refl
word_odd-xor (suc k) a b =
    (λ i. lowest_xor a b i ⊕ (ap (word_odd k) (half_xor a b) ∙ word_odd-xor k (a / 2) (b / 2)) i)
    ∙ parity-mid (lowest a) (lowest b) (word_odd k (a / 2)) (word_odd k (b / 2))

half_lt : {n : ℕ} (k : ℕ) → n < 2 ^ suc k → n / 2 < 2 ^ k
half_lt {n} k h = let e : 2 ^ suc k ≡ 2 ^ k * 2 = pow-suc 2 k in omega (arith, e)

-- a word of k bits has no others
pub word_ones-all : (k w : ℕ) → w < 2 ^ k → ones w ≡ word_ones k w
unfolding word_ones
word_ones-all zero w h =
    let none : w ≡ 0 = omega arith in
    ap ones none ∙ ones-ones 0
word_ones-all (suc k) w h = ones_step w ∙ ap (λ n. w % 2 + n) (word_ones-all k (w / 2) (half_lt k h))

odd_ones : (k w : ℕ) → lowest (word_ones k w) ≡ word_odd k w
unfolding word_ones word_odd
odd_ones zero w = refl
odd_ones (suc k) w =
    let low : w % 2 % 2 ≡ w % 2 = omega arith in
    lowest_add (w % 2) (word_ones k (w / 2)) ∙ (λ i. eqb (low i) 1 ⊕ odd_ones k (w / 2) i)

pub word_odd-all : (k w : ℕ) → w < 2 ^ k → eqb (ones w % 2) 1 ≡ word_odd k w
word_odd-all k w h = ap (λ n. lowest n) (word_ones-all k w h) ∙ odd_ones k w

-- several words

pub words_odd-xor : (k : ℕ) (ws vs : List ℕ) → length ws ≡ length vs → words_odd k (zip2 bit_xor ws vs) ≡ words_odd k ws ⊕ words_odd k vs
words_odd-xor k [] [] e = refl
words_odd-xor k [] (v ∷ vs) e = absurd (omega arith)
words_odd-xor k (w ∷ ws) [] e = absurd (omega arith)
words_odd-xor k (w ∷ ws) (v ∷ vs) e =
    (λ i. word_odd-xor k w v i ⊕ words_odd-xor k ws vs (omega arith) i)
    ∙ parity-mid (word_odd k w) (word_odd k v) (words_odd k ws) (words_odd k vs)

-- four words folded: the first and third and the second and fourth, and then both

-- the lanes further on by two, and by one
abbrev by_two : List ℕ → List ℕ
by_two xs = pick_l 0 (xs ++ xs) (2 ∷ 3 ∷ 0 ∷ 1 ∷ [])

abbrev by_one : List ℕ → List ℕ
by_one xs = pick_l 0 (xs ++ xs) (1 ∷ 2 ∷ 3 ∷ 0 ∷ [])

abbrev pairs : List ℕ → List ℕ
pairs ws = zip2 bit_xor ws (by_two ws)

pub words_odd-fold : (k : ℕ) (ws : List ℕ) → length ws ≡ 4 → word_odd k (get_or (zip2 bit_xor (pairs ws) (by_one (pairs ws))) 0 0) ≡ words_odd k ws
words_odd-fold k (a ∷ b ∷ c ∷ d ∷ []) e =
    word_odd-xor k (bit_xor a c) (bit_xor b d)
    ∙ (λ i. word_odd-xor k a c i ⊕ word_odd-xor k b d i)
    ∙ parity-mid (word_odd k a) (word_odd k c) (word_odd k b) (word_odd k d)
    ∙ ap (λ t. (word_odd k a ⊕ word_odd k b) ⊕ (word_odd k c ⊕ t)) (sym (parity-false (word_odd k d)))
    ∙ parity-assoc (word_odd k a) (word_odd k b) (word_odd k c ⊕ (word_odd k d ⊕ words_odd k []))
words_odd-fold k ws e = absurd (omega arith)
