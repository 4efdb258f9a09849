-- Words: the bits of what is computed of words.
use Rattle.stab_sampler.proofs.Names.{◌≡◌, ℕ, ◌+◌, ◌<◌, ◌%◌, ap, eqb, true, false, inl, inr, bit_xor, ◌⊎◌, bit_at, bit_at_xor, bit_at_ones, bit_at-zero, bit_at-lt, ◌⊕◌, two_cases, word_bit}

differ : (a b x : ℕ) → x ≡ (a + b) % 2 → a < 2 → b < 2 → eqb x 1 ≡ eqb a 1 ⊕ eqb b 1
differ a b x e ha hb = by_cases (two_cases a ha) (two_cases b hb)
  where
    by_cases : (a ≡ 0) ⊎ (a ≡ 1) → (b ≡ 0) ⊎ (b ≡ 1) → eqb x 1 ≡ eqb a 1 ⊕ eqb b 1
    by_cases (inl p) (inl q) = rw (e, p, q)
    by_cases (inl p) (inr q) = rw (e, p, q)
    by_cases (inr p) (inl q) = rw (e, p, q)
    by_cases (inr p) (inr q) = rw (e, p, q)

pub word_bit-xor : (a b l : ℕ) → word_bit (bit_xor a b) l ≡ word_bit a l ⊕ word_bit b l
word_bit-xor a b l = differ (bit_at a l) (bit_at b l) (bit_at (bit_xor a b) l) (bit_at_xor a b l) (bit_at-lt a l) (bit_at-lt b l)

pub word_bit-ones : (l : ℕ) → l < 64 → word_bit 18446744073709551615 l ≡ true
word_bit-ones l lt = ap (λ b. eqb b 1) (bit_at_ones 64 l lt)

pub word_bit-zero : (l : ℕ) → word_bit 0 l ≡ false
word_bit-zero l = ap (λ b. eqb b 1) (bit_at-zero l)
