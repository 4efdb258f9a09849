-- Shifted bits: those of words that are shifted, cut off and masked.
use Rattle.stab_sampler.proofs.Names.{◌≡◌, ℕ, ◌+◌, ◌-◌, ◌*◌, ◌/◌, ◌^◌, ◌<◌, ◌≤◌, ◌%◌, ap, sym, ◌∙◌, eqb, false, ◌&&◌, inl, inr, arith, bit_and, ◌⊎◌, bit_at, bit_at_and, bit_at-lt, bit_at_cat_low, bit_at_cat_high, bit_at_above, div-div-eq-div-mul, pow-add, pow_pos, word_bit, byte_at, two_cases}
use Rattle.std.specs.Prelude.{min}
use Rattle.stab_sampler.proofs.WordLemmas.{word_bit-zero}

both : (a b x : ℕ) → x ≡ min a b → a < 2 → b < 2 → eqb x 1 ≡ eqb a 1 && eqb b 1
both a b x e ha hb = by_cases (two_cases a ha) (two_cases b hb)
  where
    by_cases : (a ≡ 0) ⊎ (a ≡ 1) → (b ≡ 0) ⊎ (b ≡ 1) → eqb x 1 ≡ eqb a 1 && eqb b 1
    by_cases (inl p) (inl q) = rw (e, p, q)
    by_cases (inl p) (inr q) = rw (e, p, q)
    by_cases (inr p) (inl q) = rw (e, p, q)
    by_cases (inr p) (inr q) = rw (e, p, q)

pub word_bit-and : (a b l : ℕ) → word_bit (bit_and a b) l ≡ word_bit a l && word_bit b l
word_bit-and a b l = both (bit_at a l) (bit_at b l) (bit_at (bit_and a b) l) (bit_at_and a b l) (bit_at-lt a l) (bit_at-lt b l)

-- moved down by this many positions
pub word_bit-down : (a s l : ℕ) → word_bit (a / 2 ^ s) l ≡ word_bit a (l + s)
word_bit-down a s l = ap (λ n. eqb (n % 2) 1) (div-div-eq-div-mul a (2 ^ s) (2 ^ l) ∙ ap (λ p. a / p) (sym (pow-add 2 s l)) ∙ ap (λ k. a / 2 ^ k) (omega arith))

-- moved up by this many positions
pub word_bit-up : (a s l : ℕ) → s ≤ l → word_bit (a * 2 ^ s) l ≡ word_bit a (l - s)
word_bit-up a s l le = let e : a * 2 ^ s ≡ a * 2 ^ s + 0 = omega arith in ap (λ n. word_bit n l) e ∙ ap (λ b. eqb b 1) (bit_at_cat_high a s 0 l (pow_pos s) le)

pub word_bit-up_below : (a s l : ℕ) → l < s → word_bit (a * 2 ^ s) l ≡ false
word_bit-up_below a s l lt = let e : a * 2 ^ s ≡ a * 2 ^ s + 0 = omega arith in ap (λ n. word_bit n l) e ∙ ap (λ b. eqb b 1) (bit_at_cat_low a s 0 l lt) ∙ word_bit-zero l

-- the lowest bits alone
pub word_bit-cut : (a w l : ℕ) → l < w → word_bit (a % 2 ^ w) l ≡ word_bit a l
word_bit-cut a w l lt =
    let e : a / 2 ^ w * 2 ^ w + a % 2 ^ w ≡ a = omega arith in
    ap (λ b. eqb b 1) (sym (bit_at_cat_low (a / 2 ^ w) w (a % 2 ^ w) l lt)) ∙ ap (λ n. word_bit n l) e

pub word_bit-cut_off : (a w l : ℕ) → a < 2 ^ w → w ≤ l → word_bit a l ≡ false
word_bit-cut_off a w l small le = ap (λ b. eqb b 1) (bit_at_above a w l small le)

-- a byte
pub word_bit-byte : (a position l : ℕ) → l < 8 → word_bit (byte_at a position) l ≡ word_bit a (8 * position + l)
word_bit-byte a position l lt = word_bit-cut (a / 2 ^ (8 * position)) 8 l lt ∙ word_bit-down a (8 * position) l ∙ ap (word_bit a) (omega arith)
