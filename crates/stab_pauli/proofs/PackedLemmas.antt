-- Packed strings: appended words, products, and powers of i.
use Rattle.stab_pauli.proofs.Names.{◌≡◌, ℕ, zero, suc, ◌+◌, ◌*◌, ◌/◌, ◌%◌, ◌^◌, refl, sym, ◌∙◌, ap, arith, Bool, true, false, ◌&&◌, eqb, List, [], ◌∷◌, ◌++◌, length, length-append, inl, inr, bit_xor, bit_and, ◌⊎◌, zip2, and_comm, length-zip2, Letter, Phase, Zero, Quarter, phase_add, phase_of_sign, quarters, ◌⊕◌, letter_product, letter_power, string_product, lowest, letter_of_bits, word_letters, packed_letters, word_odd, words_odd, word_ones, words_ones, xor_words, string_power, letters_meet, strings_meet, phase_add-assoc, phase_of_sign-parity, quarters-add, quarters-mod}
use Rattle.stab_pauli.proofs.PowerLemmas.{strings_meet-append, string_power-append}
use Rattle.stab_pauli.proofs.BitLemmas.{half_xor, half_and, lowest_xor, lowest_and, two_cases, below_two}
use Rattle.stab_pauli.proofs.OnesLemmas.{words_odd-xor}

-- appended strings

pub string_product-append : (p q p' q' : List Letter) → length p ≡ length q → string_product (p ++ p') (q ++ q') ≡ string_product p q ++ string_product p' q'
string_product-append [] [] p' q' e = refl
string_product-append [] (y ∷ q) p' q' e = absurd (omega arith)
string_product-append (x ∷ p) [] p' q' e = absurd (omega arith)
string_product-append (x ∷ p) (y ∷ q) p' q' e = ap (λ t. letter_product x y ∷ t) (string_product-append p q p' q' (omega arith))

-- words

pub length-word_letters : (k x z : ℕ) → length (word_letters k x z) ≡ k
unfolding word_letters
length-word_letters zero x z = refl
length-word_letters (suc k) x z = ap suc (length-word_letters k (x / 2) (z / 2))

letter_xor : (a b c d : Bool) → letter_of_bits (a ⊕ c) (b ⊕ d) ≡ letter_product (letter_of_bits a b) (letter_of_bits c d)
letter_xor a b c d = grind arith

pub word_product : (k x1 z1 x2 z2 : ℕ) → word_letters k (bit_xor x1 x2) (bit_xor z1 z2) ≡ string_product (word_letters k x1 z1) (word_letters k x2 z2)
unfolding word_letters
word_product zero x1 z1 x2 z2 = refl
word_product (suc k) x1 z1 x2 z2 =
    (λ i. letter_of_bits (lowest_xor x1 x2 i) (lowest_xor z1 z2 i) ∷ word_letters k (half_xor x1 x2 i) (half_xor z1 z2 i))
    ∙ (λ i. letter_xor (lowest x1) (lowest z1) (lowest x2) (lowest z2) i ∷ word_product k (x1 / 2) (z1 / 2) (x2 / 2) (z2 / 2) i)

-- strings of words

pub length-packed : (k : ℕ) (xs zs : List ℕ) → length xs ≡ length zs → length (packed_letters k xs zs) ≡ length xs * k
length-packed k [] zs e = omega arith
length-packed k (x ∷ xs) [] e = absurd (omega arith)
length-packed k (x ∷ xs) (z ∷ zs) e =
    length-append (word_letters k x z) (packed_letters k xs zs)
    ∙ (λ i. length-word_letters k x z i + length-packed k xs zs (let d : length xs ≡ length zs = omega arith in d) i)
    ∙ suc_times (length xs)
  where
    suc_times : (n : ℕ) → k + n * k ≡ suc n * k
    suc_times n = grind arith

-- the letters of a product of words
pub packed_product : (k : ℕ) (x1 z1 x2 z2 : List ℕ) → length x1 ≡ length z1 → length x1 ≡ length x2 → length x1 ≡ length z2
    → packed_letters k (xor_words x1 x2) (xor_words z1 z2) ≡ string_product (packed_letters k x1 z1) (packed_letters k x2 z2)
packed_product k [] [] [] [] a b c = refl
packed_product k (x1 ∷ x1s) (z1 ∷ z1s) (x2 ∷ x2s) (z2 ∷ z2s) a b c =
    (λ i. word_product k x1 z1 x2 z2 i ++ packed_product k x1s z1s x2s z2s (omega arith) (omega arith) (omega arith) i)
    ∙ sym (string_product-append (word_letters k x1 z1) (word_letters k x2 z2) (packed_letters k x1s z1s) (packed_letters k x2s z2s)
    (length-word_letters k x1 z1 ∙ sym (length-word_letters k x2 z2)))
packed_product k x1 z1 x2 z2 a b c = absurd (omega arith)

-- the Z bits of one string that meet X bits of another

letters_meet-bits : (a b c d : Bool) → (b && c) ≡ letters_meet (letter_of_bits a b) (letter_of_bits c d)
letters_meet-bits a b c d = grind arith

word_meet : (k x1 z1 x2 z2 : ℕ) → word_odd k (bit_and z1 x2) ≡ strings_meet (word_letters k x1 z1) (word_letters k x2 z2)
unfolding word_odd word_letters
word_meet zero x1 z1 x2 z2 = refl
word_meet (suc k) x1 z1 x2 z2 =
    (λ i. lowest_and z1 x2 i ⊕ word_odd k (half_and z1 x2 i))
    ∙ (λ i. letters_meet-bits (lowest x1) (lowest z1) (lowest x2) (lowest z2) i ⊕ word_meet k (x1 / 2) (z1 / 2) (x2 / 2) (z2 / 2) i)

pub packed_meet : (k : ℕ) (x1 z1 x2 z2 : List ℕ) → length x1 ≡ length z1 → length x1 ≡ length x2 → length x1 ≡ length z2
    → words_odd k (zip2 bit_and z1 x2) ≡ strings_meet (packed_letters k x1 z1) (packed_letters k x2 z2)
packed_meet k [] [] [] [] a b c = refl
packed_meet k (x1 ∷ x1s) (z1 ∷ z1s) (x2 ∷ x2s) (z2 ∷ z2s) a b c =
    (λ i. word_meet k x1 z1 x2 z2 i ⊕ packed_meet k x1s z1s x2s z2s (omega arith) (omega arith) (omega arith) i)
    ∙ sym (strings_meet-append (word_letters k x1 z1) (word_letters k x2 z2) (packed_letters k x1s z1s) (packed_letters k x2s z2s)
    (length-word_letters k x1 z1 ∙ sym (length-word_letters k x2 z2)))
packed_meet k x1 z1 x2 z2 a b c = absurd (omega arith)

zip2-and_comm : (xs ys : List ℕ) → zip2 bit_and xs ys ≡ zip2 bit_and ys xs
zip2-and_comm [] [] = refl
zip2-and_comm [] (y ∷ ys) = refl
zip2-and_comm (x ∷ xs) [] = refl
zip2-and_comm (x ∷ xs) (y ∷ ys) = λ i. and_comm x y i ∷ zip2-and_comm xs ys i

-- added to those counted before, as signs
pub meet_phase-step : (k n : ℕ) (ms x1 z1 x2 z2 : List ℕ) → length ms ≡ n → length x1 ≡ n → length z1 ≡ n → length x2 ≡ n → length z2 ≡ n
    → phase_of_sign (words_odd k (zip2 bit_xor ms (zip2 bit_and z1 x2))) ≡ phase_add (phase_of_sign (words_odd k ms)) (phase_of_sign (strings_meet (packed_letters k x1 z1) (packed_letters k x2 z2)))
meet_phase-step k n ms x1 z1 x2 z2 lm lx lz lx' lz' =
    ap phase_of_sign
    (words_odd-xor k ms (zip2 bit_and z1 x2) (lm ∙ sym (length-zip2 bit_and z1 x2 (lz ∙ sym lx') ∙ lz))
    ∙ ap (λ t. words_odd k ms ⊕ t) (packed_meet k x1 z1 x2 z2 (lx ∙ sym lz) (lx ∙ sym lx') (lx ∙ sym lz')))
    ∙ phase_of_sign-parity (words_odd k ms) (strings_meet (packed_letters k x1 z1) (packed_letters k x2 z2))

-- and in both orders
pub order_phase-step : (k n : ℕ) (ms x1 z1 x2 z2 : List ℕ) → length ms ≡ n → length x1 ≡ n → length z1 ≡ n → length x2 ≡ n → length z2 ≡ n
    → phase_of_sign (words_odd k (zip2 bit_xor (zip2 bit_xor ms (zip2 bit_and z1 x2)) (zip2 bit_and x1 z2)))
    ≡ phase_add (phase_of_sign (words_odd k ms)) (phase_add (phase_of_sign (strings_meet (packed_letters k x1 z1) (packed_letters k x2 z2))) (phase_of_sign (strings_meet (packed_letters k x2 z2) (packed_letters k x1 z1))))
order_phase-step k n ms x1 z1 x2 z2 lm lx lz lx' lz' =
    ap (λ t. phase_of_sign (words_odd k (zip2 bit_xor now t))) (zip2-and_comm x1 z2)
    ∙ meet_phase-step k n now x2 z2 x1 z1 (length-zip2 bit_xor ms (zip2 bit_and z1 x2) (lm ∙ sym (length-zip2 bit_and z1 x2 (lz ∙ sym lx') ∙ lz)) ∙ lm) lx' lz' lx lz
    ∙ ap (λ t. phase_add t second) (meet_phase-step k n ms x1 z1 x2 z2 lm lx lz lx' lz')
    ∙ phase_add-assoc (phase_of_sign (words_odd k ms)) (phase_of_sign (strings_meet (packed_letters k x1 z1) (packed_letters k x2 z2))) second
  where
    now : List ℕ
    now = zip2 bit_xor ms (zip2 bit_and z1 x2)

    second : Phase
    second = phase_of_sign (strings_meet (packed_letters k x2 z2) (packed_letters k x1 z1))

-- the powers of i before the bits

bit_power : Bool → Phase
bit_power false = Zero
bit_power true = Quarter

power_bits : (a b : Bool) → bit_power (a && b) ≡ letter_power (letter_of_bits a b)
unfolding bit_power
power_bits false false = refl
power_bits false true = refl
power_bits true false = refl
power_bits true true = refl

lowest_power : (n : ℕ) → quarters (n % 2) ≡ bit_power (lowest n)
unfolding bit_power
lowest_power n = by_cases (two_cases (n % 2) (below_two n))
  where
    by_cases : (n % 2 ≡ 0) ⊎ (n % 2 ≡ 1) → quarters (n % 2) ≡ bit_power (eqb (n % 2) 1)
    by_cases (inl e) = ap quarters e ∙ ap (λ m. bit_power (eqb m 1)) (sym e)
    by_cases (inr e) = ap quarters e ∙ ap (λ m. bit_power (eqb m 1)) (sym e)

word_power : (k x z : ℕ) → quarters (word_ones k (bit_and x z)) ≡ string_power (word_letters k x z)
unfolding word_ones word_letters
word_power zero x z = refl
word_power (suc k) x z =
    quarters-add (bit_and x z % 2) (word_ones k (bit_and x z / 2))
    ∙ (λ i. phase_add
    ((lowest_power (bit_and x z) ∙ ap bit_power (lowest_and x z) ∙ power_bits (lowest x) (lowest z)) i)
    ((ap (λ n. quarters (word_ones k n)) (half_and x z) ∙ word_power k (x / 2) (z / 2)) i))

pub packed_power : (k : ℕ) (xs zs : List ℕ) → length xs ≡ length zs → quarters (words_ones k (zip2 bit_and xs zs)) ≡ string_power (packed_letters k xs zs)
packed_power k [] [] e = refl
packed_power k [] (z ∷ zs) e = absurd (omega arith)
packed_power k (x ∷ xs) [] e = absurd (omega arith)
packed_power k (x ∷ xs) (z ∷ zs) e =
    quarters-add (word_ones k (bit_and x z)) (words_ones k (zip2 bit_and xs zs))
    ∙ (λ i. phase_add (word_power k x z i) (packed_power k xs zs (omega arith) i))
    ∙ sym (string_power-append (word_letters k x z) (packed_letters k xs zs))

-- added to those counted before, in a count that may wrap
pub power_step : (count more n : ℕ) (x z x' z' : List ℕ) → more ≡ words_ones 64 (zip2 bit_and x z) → length x ≡ n → length z ≡ n → length x' ≡ n → length z' ≡ n
    → quarters ((count + more) % 2 ^ 32) ≡ phase_add (quarters count) (string_power (packed_letters 64 x z))
power_step count more n x z x' z' e lx lz lx' lz' =
    quarters-mod (2 ^ 30) (count + more) ∙ quarters-add count more
    ∙ ap (phase_add (quarters count)) (ap quarters e ∙ packed_power 64 x z (lx ∙ sym lz))
