-- Bits of words: the lowest, and half of a word.
use Rattle.stab_pauli.proofs.Names.{◌≡◌, ℕ, zero, suc, ◌+◌, ◌/◌, ◌%◌, refl, sym, ◌∙◌, ap, arith, ◌&&◌, eqb, ◌<◌, inl, inr, bit_xor, bit_and, min, ◌⊎◌, bit_at, bit_at_lowest, bit_at-suc, bit_at_and, bit_at_xor, same_from_bits, ◌⊕◌, lowest}

pub half_xor : (a b : ℕ) → bit_xor a b / 2 ≡ bit_xor (a / 2) (b / 2)
half_xor a b = same_from_bits (bit_xor a b / 2) (bit_xor (a / 2) (b / 2)) (λ i.
    sym (bit_at-suc (bit_xor a b) i) ∙ bit_at_xor a b (suc i)
    ∙ ap (λ t. (t + bit_at b (suc i)) % 2) (bit_at-suc a i) ∙ ap (λ t. (bit_at (a / 2) i + t) % 2) (bit_at-suc b i)
    ∙ sym (bit_at_xor (a / 2) (b / 2) i))

pub half_and : (a b : ℕ) → bit_and a b / 2 ≡ bit_and (a / 2) (b / 2)
half_and a b = same_from_bits (bit_and a b / 2) (bit_and (a / 2) (b / 2)) (λ i.
    sym (bit_at-suc (bit_and a b) i) ∙ bit_at_and a b (suc i)
    ∙ ap (λ t. min t (bit_at b (suc i))) (bit_at-suc a i) ∙ ap (λ t. min (bit_at (a / 2) i) t) (bit_at-suc b i)
    ∙ sym (bit_at_and (a / 2) (b / 2) i))

pub two_cases : (x : ℕ) → x < 2 → (x ≡ 0) ⊎ (x ≡ 1)
two_cases zero h = inl refl
two_cases (suc zero) h = inr refl
two_cases (suc (suc x)) h = absurd (omega arith)

pub low_xor : (a b x : ℕ) → x ≡ (a + b) % 2 → a < 2 → b < 2 → eqb x 1 ≡ eqb a 1 ⊕ eqb b 1
low_xor a b x e ha hb = by_cases (two_cases a ha) (two_cases b hb)
  where
    by_cases : (a ≡ 0) ⊎ (a ≡ 1) → (b ≡ 0) ⊎ (b ≡ 1) → eqb x 1 ≡ eqb a 1 ⊕ eqb b 1
    by_cases (inl p) (inl q) = rw (e, p, q)
    by_cases (inl p) (inr q) = rw (e, p, q)
    by_cases (inr p) (inl q) = rw (e, p, q)
    by_cases (inr p) (inr q) = rw (e, p, q)

low_and : (a b x : ℕ) → x ≡ min a b → a < 2 → b < 2 → eqb x 1 ≡ (eqb a 1 && eqb b 1)
low_and a b x e ha hb = by_cases (two_cases a ha) (two_cases b hb)
  where
    by_cases : (a ≡ 0) ⊎ (a ≡ 1) → (b ≡ 0) ⊎ (b ≡ 1) → eqb x 1 ≡ (eqb a 1 && eqb b 1)
    by_cases (inl p) (inl q) = rw (e, p, q)
    by_cases (inl p) (inr q) = rw (e, p, q)
    by_cases (inr p) (inl q) = rw (e, p, q)
    by_cases (inr p) (inr q) = rw (e, p, q)

pub below_two : (n : ℕ) → n % 2 < 2
below_two n = omega arith

pub lowest_xor : (a b : ℕ) → lowest (bit_xor a b) ≡ lowest a ⊕ lowest b
lowest_xor a b = low_xor (a % 2) (b % 2) (bit_xor a b % 2)
    (sym (bit_at_lowest (bit_xor a b)) ∙ bit_at_xor a b 0 ∙ ap (λ t. (t + bit_at b 0) % 2) (bit_at_lowest a) ∙ ap (λ t. (a % 2 + t) % 2) (bit_at_lowest b)) (below_two a) (below_two b)

pub lowest_and : (a b : ℕ) → lowest (bit_and a b) ≡ (lowest a && lowest b)
lowest_and a b = low_and (a % 2) (b % 2) (bit_and a b % 2)
    (sym (bit_at_lowest (bit_and a b)) ∙ bit_at_and a b 0 ∙ ap (λ t. min t (bit_at b 0)) (bit_at_lowest a) ∙ ap (λ t. min (a % 2) t) (bit_at_lowest b)) (below_two a) (below_two b)

pub lowest_add : (a b : ℕ) → lowest (a + b) ≡ lowest a ⊕ lowest b
lowest_add a b = low_xor (a % 2) (b % 2) ((a + b) % 2) (omega arith) (below_two a) (below_two b)
