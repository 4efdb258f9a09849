-- Transposition: six exchanges between halves take bit k of word q from bit q of word k.
use Rattle.stab_sampler.proofs.Names.{◌≡◌, ℕ, zero, suc, refl, ◌+◌, ◌-◌, ◌*◌, ◌/◌, ◌^◌, ◌<◌, ◌%◌, ap, ◌∙◌, eqb, Bool, true, false, ◌&&◌, inl, inr, arith, List, get_or, ◌⊎◌, word_bit}
use Rattle.std.specs.Prelude.{nat_lt}
use Rattle.stab_sampler.proofs.ExchangeLemmas.{FirstExchanged, SecondExchanged, exchanged-at, source_word, source_position}

-- a test of all numbers below one
abbrev pub all_below : ℕ → (ℕ → Bool) → Bool
all_below zero test = true
all_below (suc n) test = test n && all_below n test

left : (a b : Bool) → a && b ≡ true → a ≡ true
left true b e = refl
left false b e = e

right : (a b : Bool) → a && b ≡ true → b ≡ true
right true b e = e
right false b e = absurd (cc)

last_or_before : (k n : ℕ) → k < suc n → (k ≡ n) ⊎ (k < n)
last_or_before k n h = grind arith

by_order : (n k : ℕ) (test : ℕ → Bool) → test n ≡ true → (k < n → test k ≡ true) → (k ≡ n) ⊎ (k < n) → test k ≡ true
by_order n k test here before (inl is) = ap test is ∙ here
by_order n k test here before (inr less) = before less

pub tested : (n : ℕ) (test : ℕ → Bool) → all_below n test ≡ true → (k : ℕ) → k < n → test k ≡ true
tested zero test e k lt = absurd (omega (arith, lt))
tested (suc n) test e k lt =
    by_order n k test (left (test n) (all_below n test) e) (λ less. tested n test (right (test n) (all_below n test) e) k less) (last_or_before k n lt)

equal : (a b : ℕ) → eqb a b ≡ true → a ≡ b
equal a b e = grind (arith, e)

less : (a b : ℕ) → nat_lt a b ≡ true → a < b
less a b e = grind (arith, e)

-- the word and the position of a bit before the last t exchanges: the lowest t bits of both have changed sides
abbrev pub word_before : (t q k : ℕ) → ℕ
word_before t q k = q / 2 ^ t + 2 ^ (6 - t) * (k % 2 ^ t)

abbrev pub position_before : (t q k : ℕ) → ℕ
position_before t q k = k - k % 2 ^ t + q % 2 ^ t

-- whether an exchange takes the bit from where it was before
abbrev pub takes : (t mask s q k : ℕ) → Bool
takes t mask s q k =
    nat_lt (word_before t q k) 64
    && (eqb (source_word mask s (word_before t q k) (position_before t q k)) (word_before (suc t) q k)
    && eqb (source_position mask s (word_before t q k) (position_before t q k)) (position_before (suc t) q k))

abbrev pub takes_all : (t mask s : ℕ) → Bool
takes_all t mask s = all_below 64 (λ q. all_below 64 (λ k. takes t mask s q k))

pub ones : takes_all 0 0x5555555555555555 1 ≡ true
ones = refl

pub twos : takes_all 1 0x3333333333333333 2 ≡ true
twos = refl

pub fours : takes_all 2 0x0F0F0F0F0F0F0F0F 4 ≡ true
fours = refl

pub eights : takes_all 3 0x00FF00FF00FF00FF 8 ≡ true
eights = refl

pub sixteens : takes_all 4 0x0000FFFF0000FFFF 16 ≡ true
sixteens = refl

pub halves : takes_all 5 0x00000000FFFFFFFF 32 ≡ true
halves = refl

-- a bit is followed through one exchange
pub followed : (t mask s : ℕ) (old new : List ℕ) → takes_all t mask s ≡ true → FirstExchanged old new mask s → SecondExchanged old new mask s → (q k : ℕ) → q < 64 → k < 64
    → word_bit (get_or new (word_before t q k) 0) (position_before t q k) ≡ word_bit (get_or old (word_before (suc t) q k) 0) (position_before (suc t) q k)
followed t mask s old new all first second q k small few =
    let one = tested 64 (λ k. takes t mask s q k) (tested 64 (λ q. all_below 64 (λ k. takes t mask s q k)) all q small) k few in
    let word = word_before t q k in
    let position = position_before t q k in
    let both = right (nat_lt word 64) _ one in
    exchanged-at old new mask s first second word position (less word 64 (left (nat_lt word 64) _ one))
    ∙ (λ i. word_bit
    (get_or old (equal (source_word mask s word position) (word_before (suc t) q k) (left (eqb (source_word mask s word position) (word_before (suc t) q k)) _ both) i) 0)
    (equal (source_position mask s word position) (position_before (suc t) q k) (right (eqb (source_word mask s word position) (word_before (suc t) q k)) _ both) i))

-- six exchanges transpose 64 words
pub transposed-at : (words one two three four five six : List ℕ)
    → FirstExchanged words one 0x00000000FFFFFFFF 32 → SecondExchanged words one 0x00000000FFFFFFFF 32
    → FirstExchanged one two 0x0000FFFF0000FFFF 16 → SecondExchanged one two 0x0000FFFF0000FFFF 16
    → FirstExchanged two three 0x00FF00FF00FF00FF 8 → SecondExchanged two three 0x00FF00FF00FF00FF 8
    → FirstExchanged three four 0x0F0F0F0F0F0F0F0F 4 → SecondExchanged three four 0x0F0F0F0F0F0F0F0F 4
    → FirstExchanged four five 0x3333333333333333 2 → SecondExchanged four five 0x3333333333333333 2
    → FirstExchanged five six 0x5555555555555555 1 → SecondExchanged five six 0x5555555555555555 1
    → (q k : ℕ) → q < 64 → k < 64 → word_bit (get_or six q 0) k ≡ word_bit (get_or words k 0) q
transposed-at words one two three four five six a a' b b' c c' d d' e e' f f' q k small few =
    let word_now : q ≡ word_before 0 q k = omega arith in
    let position_now : k ≡ position_before 0 q k = omega arith in
    let word_first : word_before 6 q k ≡ k = omega (arith, small, few) in
    let position_first : position_before 6 q k ≡ q = omega (arith, small, few) in
    (λ i. word_bit (get_or six (word_now i) 0) (position_now i))
    ∙ followed 0 0x5555555555555555 1 five six ones f f' q k small few
    ∙ followed 1 0x3333333333333333 2 four five twos e e' q k small few
    ∙ followed 2 0x0F0F0F0F0F0F0F0F 4 three four fours d d' q k small few
    ∙ followed 3 0x00FF00FF00FF00FF 8 two three eights c c' q k small few
    ∙ followed 4 0x0000FFFF0000FFFF 16 one two sixteens b b' q k small few
    ∙ followed 5 0x00000000FFFFFFFF 32 words one halves a a' q k small few
    ∙ (λ i. word_bit (get_or words (word_first i) 0) (position_first i))
