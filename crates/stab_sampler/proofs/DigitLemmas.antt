-- Numbers by their bits: the number of binary digits, and a byte of a word.
use Rattle.stab_sampler.proofs.Names.{◌≡◌, ℕ, zero, suc, refl, ◌+◌, ◌*◌, ◌/◌, ◌^◌, ◌<◌, ◌≤◌, ◌%◌, ap, sym, ◌∙◌, eqb, Bool, true, false, List, [], ◌∷◌, length, get_or, arith, if◌then◌else◌, mod-pow-add, bit_at-suc, bit_at_lowest, number, word_bit, byte_at}
use Rattle.stab_sampler.proofs.ShiftedBitLemmas.{word_bit-down}

-- the lowest bit of a number
lowest : (x : ℕ) (b : Bool) → word_bit x 0 ≡ b → x % 2 ≡ (if b then 1 else 0)
lowest x true e = grind (e, arith, bit_at_lowest x)
lowest x false e = grind (e, arith, bit_at_lowest x)

half : (x k : ℕ) → word_bit x (suc k) ≡ word_bit (x / 2) k
half x k = ap (λ b. eqb b 1) (bit_at-suc x k)

first_and_rest : (x n : ℕ) → x % 2 ^ suc n ≡ 2 * (x / 2 % 2 ^ n) + x % 2
first_and_rest x n =
    let e : suc n ≡ n + 1 = omega arith in
    ap (λ k. x % 2 ^ k) e ∙ mod-pow-add x n 1 ∙ omega arith

doubled : (bits : List Bool) (b : Bool) → 2 * number bits + (if b then 1 else 0) ≡ number (b ∷ bits)
doubled bits true = refl
doubled bits false = omega arith

-- the lowest n bits of a number, if those after some digits are 0
pub number-of_bits : (n x : ℕ) (bits : List Bool) → length bits ≤ n → ((k : ℕ) → k < n → word_bit x k ≡ get_or bits k false) → x % 2 ^ n ≡ number bits
number-of_bits zero x [] le are = omega arith
number-of_bits zero x (b ∷ bits) le are = absurd (omega (arith, le))
number-of_bits (suc n) x [] le are =
    first_and_rest x n
    ∙ (λ i. 2 * number-of_bits n (x / 2) [] (omega arith) (λ k lt. sym (half x k) ∙ are (suc k) (omega (arith, lt))) i + lowest x false (are 0 (omega arith)) i)
number-of_bits (suc n) x (b ∷ bits) le are =
    first_and_rest x n
    ∙ (λ i. 2 * number-of_bits n (x / 2) bits (omega (arith, le)) (λ k lt. sym (half x k) ∙ are (suc k) (omega (arith, lt))) i + lowest x b (are 0 (omega arith)) i)
    ∙ doubled bits b

-- a byte of a word, if its bits are some digits with zeros after them
pub byte-of_bits : (word l : ℕ) (bits : List Bool) → length bits ≤ 8 → ((k : ℕ) → k < 8 → word_bit word (8 * l + k) ≡ get_or bits k false) → byte_at word l ≡ number bits
byte-of_bits word l bits le are =
    number-of_bits 8 (word / 2 ^ (8 * l)) bits le (λ k lt. word_bit-down word (8 * l) k ∙ ap (word_bit word) (omega arith) ∙ are k lt)
