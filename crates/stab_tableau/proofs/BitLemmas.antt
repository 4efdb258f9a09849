-- Bits of strings: those of a product, and that they determine a string.
use Rattle.stab_tableau.proofs.Names.{lt-ltb, ltb-true, ltb-false, eqb_tells, ◌≡◌, ◌≢◌, subst, ℕ, zero, suc, ◌+◌, ◌-◌, ◌<◌, ◌≤◌, Bool, true, false, nat_lt, inl, inr, refl, sym, ◌∙◌, ap, List, length, arith, if◌then◌else◌, ext_get_or, length-replicate, Letter, I, X, Z, ◌⊕◌, letter_product, letters_anticommute, identity, string_product, parity-self, letters_anticommute-comm, letters_anticommute-product, letters_anticommute-determines, get_or-string_product, string_product-self, clash, letter_at, bit_at, IsFirst}
use Rattle.std.proofs.Common.{◌⊎◌}

pub bit-x : (n : ℕ) (p : List Letter) (k : ℕ) → k < n → bit_at n p k ≡ letters_anticommute Z (letter_at p k)
bit-x n p k lt = ap (λ b. if b then letters_anticommute Z (letter_at p k) else letters_anticommute X (letter_at p (k - n))) (lt-ltb k n lt)

not-below : (n k : ℕ) → n ≤ k → nat_lt k n ≡ false
not-below n k le = by_test (nat_lt k n) refl
  where
    by_test : (b : Bool) → nat_lt k n ≡ b → nat_lt k n ≡ false
    by_test false e = e
    by_test true e = let lt : k < n = ltb-true k n e in absurd (omega arith)

pub bit-past : (n : ℕ) (p : List Letter) (k : ℕ) → n ≤ k → bit_at n p k ≡ letters_anticommute X (letter_at p (k - n))
bit-past n p k le = ap (λ b. if b then letters_anticommute Z (letter_at p k) else letters_anticommute X (letter_at p (k - n))) (not-below n k le)

pub bit-z : (n : ℕ) (p : List Letter) (k : ℕ) → bit_at n p (n + k) ≡ letters_anticommute X (letter_at p k)
bit-z n p k = bit-past n p (n + k) (omega arith) ∙ ap (λ k. letters_anticommute X (letter_at p k)) back
  where
    back : n + k - n ≡ k
    back = omega arith

anticommute-letters : (l a b : Letter) → letters_anticommute l (letter_product a b) ≡ letters_anticommute l a ⊕ letters_anticommute l b
anticommute-letters l a b =
    letters_anticommute-comm l (letter_product a b) ∙ letters_anticommute-product a b l
    ∙ (λ i. letters_anticommute-comm a l i ⊕ letters_anticommute-comm b l i)

-- the bits of a product are the parities of those of its factors
pub bit-product : (n : ℕ) (p q : List Letter) (k : ℕ) → bit_at n (string_product p q) k ≡ bit_at n p k ⊕ bit_at n q k
bit-product n p q k = by_side (nat_lt k n)
  where
    at : (l : Letter) (k : ℕ) → letters_anticommute l (letter_at (string_product p q) k) ≡ letters_anticommute l (letter_at p k) ⊕ letters_anticommute l (letter_at q k)
    at l k = ap (letters_anticommute l) (get_or-string_product p q k) ∙ anticommute-letters l (letter_at p k) (letter_at q k)

    by_side : (b : Bool)
        → (if b then letters_anticommute Z (letter_at (string_product p q) k) else letters_anticommute X (letter_at (string_product p q) (k - n)))
        ≡ (if b then letters_anticommute Z (letter_at p k) else letters_anticommute X (letter_at p (k - n)))
        ⊕ (if b then letters_anticommute Z (letter_at q k) else letters_anticommute X (letter_at q (k - n)))
    by_side true = at Z k
    by_side false = at X (k - n)

-- strings are determined by their bits
pub bits-determine : (n : ℕ) (p q : List Letter) → length p ≡ n → length q ≡ n → ((k : ℕ) → k < n + n → bit_at n p k ≡ bit_at n q k) → p ≡ q
bits-determine n p q lp lq same =
    ext_get_or I p q (lp ∙ sym lq)
    (λ k lt. let ln : k < n = (omega arith) in
    letters_anticommute-determines (letter_at p k) (letter_at q k)
    (letters_anticommute-comm (letter_at p k) X ∙ sym (bit-z n p k) ∙ same (n + k) (omega arith) ∙ bit-z n q k ∙ letters_anticommute-comm X (letter_at q k))
    (letters_anticommute-comm (letter_at p k) Z ∙ sym (bit-x n p k ln) ∙ same k (omega arith) ∙ bit-x n q k ln ∙ letters_anticommute-comm Z (letter_at q k)))

-- letters I have no 1
pub bit-identity : (n k : ℕ) → bit_at n (identity n).letters k ≡ false
bit-identity n k =
    ap (λ p. bit_at n p k) (sym (string_product-self n (identity n).letters (length-replicate n I)))
    ∙ bit-product n (identity n).letters (identity n).letters k
    ∙ parity-self (bit_at n (identity n).letters k)

-- positions

pub nat-distinct : (a b : ℕ) → a ≢ b → (a < b) ⊎ (b < a)
nat-distinct a b ne = by_test (nat_lt a b) refl
  where
    by_test : (t : Bool) → nat_lt a b ≡ t → (a < b) ⊎ (b < a)
    by_test true e = inl (ltb-true a b e)
    by_test false e = inr (let le = ltb-false a b e in omega arith)

-- what holds below a position and there holds up to it
pub up-to : (P : ℕ → Type 0) (k : ℕ) → ((j : ℕ) → j < k → P j) → P k → (j : ℕ) → j < suc k → P j
up-to P k f e j lt = elim (eqb_tells j k) [
  | inl same ↦ subst P (sym same.1) e
  | inr other ↦ f j (let ne = other.1 in omega arith)
]

-- the first 1 of a test below a bound, if there is one
pub record HasFirst (f : ℕ → Bool) (m : ℕ) : Type 0 where
  pub position : ℕ
  pub below : position < m
  pub one : f position ≡ true
  pub before : (j : ℕ) → j < position → f j ≡ false

pub find-first : (f : ℕ → Bool) (m : ℕ) → ((j : ℕ) → j < m → f j ≡ false) ⊎ HasFirst f m
find-first f zero = inl (λ j lt. absurd (omega arith))
find-first f (suc m) = elim (find-first f m) [
  | inr h ↦ inr (record { position = h.position; below = let b = h.below in omega arith; one = h.one; before = h.before })
  | inl none ↦ by_bit none (f m) refl
]
  where
    by_bit : ((j : ℕ) → j < m → f j ≡ false) → (b : Bool) → f m ≡ b → ((j : ℕ) → j < suc m → f j ≡ false) ⊎ HasFirst f (suc m)
    by_bit none true e = inr (record { position = m; below = omega arith; one = e; before = none })
    by_bit none false e = inl (up-to (λ j. f j ≡ false) m none e)

-- a first 1 is at one position
pub first-one : (n : ℕ) (p : List Letter) (j k : ℕ) → IsFirst n p j → IsFirst n p k → j ≡ k
first-one n p j k a b = elim (eqb_tells j k) [
  | inl same ↦ same.1
  | inr other ↦ elim (nat-distinct j k other.1) [
    | inl lt ↦ absurd (clash (bit_at n p j) a.1 (b.2 j lt))
    | inr lt ↦ absurd (clash (bit_at n p k) b.1 (a.2 k lt))
  ]
]
