-- Exchanges: bits that the halves of 64 words exchange, each word with its partner.
use Rattle.stab_sampler.proofs.Names.{◌≡◌, ℕ, refl, ◌+◌, ◌-◌, ◌*◌, ◌/◌, ◌^◌, ◌<◌, ◌≤◌, ◌%◌, ap, sym, ◌∙◌, eqb, Bool, true, false, ◌&&◌, inl, inr, arith, List, get_or, bit_xor, ◌⊎◌, if◌then◌else◌, ◌⊕◌, word_bit, differing_bits, first_exchanged, second_exchanged}
use Rattle.stab_sampler.proofs.WordLemmas.{word_bit-xor}
use Rattle.stab_sampler.proofs.ShiftedBitLemmas.{word_bit-and, word_bit-down, word_bit-up, word_bit-up_below, word_bit-cut, word_bit-cut_off}

-- a mask's bits, this many positions higher
abbrev pub raised : (mask s : ℕ) → ℕ
raised mask s = mask * 2 ^ s % 18446744073709551616

-- a bit that is exchanged, or stays
picks : (here there m : Bool) → here ⊕ ((there ⊕ here) && m) ≡ (if m then there else here)
picks true true true = refl
picks true true false = refl
picks true false true = refl
picks true false false = refl
picks false true true = refl
picks false true false = refl
picks false false true = refl
picks false false false = refl

picks-raised : (here there m : Bool) → here ⊕ ((here ⊕ there) && m) ≡ (if m then there else here)
picks-raised true true true = refl
picks-raised true true false = refl
picks-raised true false true = refl
picks-raised true false false = refl
picks-raised false true true = refl
picks-raised false true false = refl
picks-raised false false true = refl
picks-raised false false false = refl

and-false : (a b : Bool) → b ≡ false → a && b ≡ false
and-false true b e = e
and-false false b e = refl

by_size : (s k : ℕ) → (k < s) ⊎ ((s ≤ k) × (k < 64)) ⊎ (64 ≤ k)
by_size s k = grind arith

module _ (a b mask s : ℕ) where
  differing-at : (k : ℕ) → word_bit (differing_bits a b mask s) k ≡ (word_bit a (k + s) ⊕ word_bit b k) && word_bit mask k
  differing-at k = word_bit-and (bit_xor (a / 2 ^ s) b) mask k ∙ ap (λ x. x && word_bit mask k) (word_bit-xor (a / 2 ^ s) b k ∙ ap (λ x. x ⊕ word_bit b k) (word_bit-down a s k))

  -- a number that is moved up, and cut off
  raised-at : (n k : ℕ) → s ≤ k → k < 64 → word_bit (n * 2 ^ s % 18446744073709551616) k ≡ word_bit n (k - s)
  raised-at n k le lt = word_bit-cut (n * 2 ^ s) 64 k lt ∙ word_bit-up n s k le

  raised-below : (n k : ℕ) → k < s → word_bit (n * 2 ^ s % 18446744073709551616) k ≡ false
  raised-below n k lt = by_end (by_size 64 k)
    where
      by_end : (k < 64) ⊎ ((64 ≤ k) × (k < 64)) ⊎ (64 ≤ k) → word_bit (n * 2 ^ s % 18446744073709551616) k ≡ false
      by_end (inl small) = word_bit-cut (n * 2 ^ s) 64 k small ∙ word_bit-up_below n s k lt
      by_end (inr (inl none)) = absurd (omega (arith, none.0, none.1))
      by_end (inr (inr le)) = word_bit-cut_off (n * 2 ^ s % 18446744073709551616) 64 k (omega arith) le

  raised-following : (n k : ℕ) → 64 ≤ k → word_bit (n * 2 ^ s % 18446744073709551616) k ≡ false
  raised-following n k le = word_bit-cut_off (n * 2 ^ s % 18446744073709551616) 64 k (omega arith) le

  lifted : (k : ℕ) → word_bit (differing_bits a b mask s * 2 ^ s % 18446744073709551616) k ≡ (word_bit a k ⊕ word_bit b (k - s)) && word_bit (raised mask s) k
  lifted k = by_position (by_size s k)
    where
      by_position : (k < s) ⊎ ((s ≤ k) × (k < 64)) ⊎ (64 ≤ k) → word_bit (differing_bits a b mask s * 2 ^ s % 18446744073709551616) k ≡ (word_bit a k ⊕ word_bit b (k - s)) && word_bit (raised mask s) k
      by_position (inl lt) = raised-below (differing_bits a b mask s) k lt ∙ sym (and-false _ _ (raised-below mask k lt))
      by_position (inr (inl h)) =
          let back : k - s + s ≡ k = omega (arith, h.0) in
          raised-at (differing_bits a b mask s) k h.0 h.1 ∙ differing-at (k - s)
          ∙ (λ i. (word_bit a (back i) ⊕ word_bit b (k - s)) && sym (raised-at mask k h.0 h.1) i)
      by_position (inr (inr le)) = raised-following (differing_bits a b mask s) k le ∙ sym (and-false _ _ (raised-following mask k le))

  first_exchanged-at : (k : ℕ) → word_bit (first_exchanged a b mask s) k ≡ (if word_bit (raised mask s) k then word_bit b (k - s) else word_bit a k)
  first_exchanged-at k =
      word_bit-xor a (differing_bits a b mask s * 2 ^ s % 18446744073709551616) k
      ∙ ap (λ x. word_bit a k ⊕ x) (lifted k)
      ∙ picks-raised (word_bit a k) (word_bit b (k - s)) (word_bit (raised mask s) k)

  second_exchanged-at : (k : ℕ) → word_bit (second_exchanged a b mask s) k ≡ (if word_bit mask k then word_bit a (k + s) else word_bit b k)
  second_exchanged-at k =
      word_bit-xor b (differing_bits a b mask s) k
      ∙ ap (λ x. word_bit b k ⊕ x) (differing-at k)
      ∙ picks (word_bit b k) (word_bit a (k + s)) (word_bit mask k)

-- which word a bit of word q comes from, if word p of the first half and word p of the second become words 2 p and 2 p + 1
abbrev pub source_word : (mask s q k : ℕ) → ℕ
source_word mask s q k = if eqb (q % 2) 0 then (if word_bit (raised mask s) k then q / 2 + 32 else q / 2) else (if word_bit mask k then q / 2 else q / 2 + 32)

-- and which position there
abbrev pub source_position : (mask s q k : ℕ) → ℕ
source_position mask s q k = if eqb (q % 2) 0 then (if word_bit (raised mask s) k then k - s else k) else (if word_bit mask k then k + s else k)

-- the words of the halves have exchanged bits
abbrev pub FirstExchanged : (old new : List ℕ) (mask s : ℕ) → Type 0
FirstExchanged old new mask s = (p : ℕ) → p < 32 → get_or new (2 * p) 0 ≡ first_exchanged (get_or old p 0) (get_or old (p + 32) 0) mask s

abbrev pub SecondExchanged : (old new : List ℕ) (mask s : ℕ) → Type 0
SecondExchanged old new mask s = (p : ℕ) → p < 32 → get_or new (2 * p + 1) 0 ≡ second_exchanged (get_or old p 0) (get_or old (p + 32) 0) mask s

even_or_odd : (q : ℕ) → ((q % 2 ≡ 0) × (2 * (q / 2) ≡ q)) ⊎ ((q % 2 ≡ 1) × (2 * (q / 2) + 1 ≡ q))
even_or_odd q = grind arith

module _ (old new : List ℕ) (mask s : ℕ) where
  first-source : (p k : ℕ) (m : Bool) → (if m then word_bit (get_or old (p + 32) 0) (k - s) else word_bit (get_or old p 0) k) ≡ word_bit (get_or old (if m then p + 32 else p) 0) (if m then k - s else k)
  first-source p k true = refl
  first-source p k false = refl

  second-source : (p k : ℕ) (m : Bool) → (if m then word_bit (get_or old p 0) (k + s) else word_bit (get_or old (p + 32) 0) k) ≡ word_bit (get_or old (if m then p else p + 32) 0) (if m then k + s else k)
  second-source p k true = refl
  second-source p k false = refl

  -- a bit is that of its source
  pub exchanged-at : FirstExchanged old new mask s → SecondExchanged old new mask s → (q k : ℕ) → q < 64
      → word_bit (get_or new q 0) k ≡ word_bit (get_or old (source_word mask s q k) 0) (source_position mask s q k)
  exchanged-at first second q k lt = by_half (even_or_odd q)
    where
      by_half : ((q % 2 ≡ 0) × (2 * (q / 2) ≡ q)) ⊎ ((q % 2 ≡ 1) × (2 * (q / 2) + 1 ≡ q)) → word_bit (get_or new q 0) k ≡ word_bit (get_or old (source_word mask s q k) 0) (source_position mask s q k)
      by_half (inl even) =
          ap (λ n. word_bit (get_or new n 0) k) (sym even.1)
          ∙ ap (λ w. word_bit w k) (first (q / 2) (omega (arith, lt)))
          ∙ first_exchanged-at (get_or old (q / 2) 0) (get_or old (q / 2 + 32) 0) mask s k
          ∙ first-source (q / 2) k (word_bit (raised mask s) k)
          ∙ (λ i. word_bit
          (get_or old (if eqb (sym even.0 i) 0 then (if word_bit (raised mask s) k then q / 2 + 32 else q / 2) else (if word_bit mask k then q / 2 else q / 2 + 32)) 0)
          (if eqb (sym even.0 i) 0 then (if word_bit (raised mask s) k then k - s else k) else (if word_bit mask k then k + s else k)))
      by_half (inr odd) =
          ap (λ n. word_bit (get_or new n 0) k) (sym odd.1)
          ∙ ap (λ w. word_bit w k) (second (q / 2) (omega (arith, lt)))
          ∙ second_exchanged-at (get_or old (q / 2) 0) (get_or old (q / 2 + 32) 0) mask s k
          ∙ second-source (q / 2) k (word_bit mask k)
          ∙ (λ i. word_bit
          (get_or old (if eqb (sym odd.0 i) 0 then (if word_bit (raised mask s) k then q / 2 + 32 else q / 2) else (if word_bit mask k then q / 2 else q / 2 + 32)) 0)
          (if eqb (sym odd.0 i) 0 then (if word_bit (raised mask s) k then k - s else k) else (if word_bit mask k then k + s else k)))
