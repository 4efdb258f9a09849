-- Units: words of which one bit is 1, and the lane that a search among ascending numbers finds.
use Rattle.stab_sampler.proofs.Names.{◌≡◌, ℕ, ◌*◌, ◌^◌, ◌<◌, ◌≤◌, ◌/◌, ◌%◌, ◌==◌, refl, sym, ◌∙◌, ap, ◌&&◌, eqb, true, false, List, length, get_or, set, replicate, Ok, Err, arith, inl, inr, ◌⊎◌, IsBinarySearchResult, nat_cmp, searched, cases_eq, cases_lt, length-replicate, get_or-replicate, get_or-set_same, get_or-set_other, bit_at-pow_same, bit_at-pow_other, word_bit, wide_bit, AreAscending, unit_coin}
use Rattle.stab_sampler.proofs.WordLemmas.{word_bit-zero}
use Rattle.stab_sampler.proofs.SeedLemmas.{is_less, is_beyond}
use Rattle.stab_sampler.proofs.WideLemmas.{wide_bit-all}
use Rattle.stab_sampler.proofs.ShiftedBitLemmas.{word_bit-cut}

alike : (a b : ℕ) → a ≡ b → (a == b) ≡ true
alike a b e = grind (arith, e)

distinct : (a b : ℕ) → (a ≡ b → ⊥) → (a == b) ≡ false
distinct a b ne = grind (arith, ne)

-- a word of which one bit is 1

pub word_bit-pow : (k l : ℕ) → word_bit (2 ^ k) l ≡ (l == k)
word_bit-pow k l = by_cases (cases_eq l k)
  where
    by_cases : (l ≡ k) ⊎ (l ≡ k → ⊥) → word_bit (2 ^ k) l ≡ (l == k)
    by_cases (inl e) = ap (word_bit (2 ^ k)) e ∙ ap (λ b. eqb b 1) (bit_at-pow_same k) ∙ sym (alike l k e)
    by_cases (inr ne) = ap (λ b. eqb b 1) (bit_at-pow_other k l ne) ∙ sym (distinct l k ne)

-- a one that is moved up
pub word_bit-moved : (k l : ℕ) → l < 64 → word_bit (1 * 2 ^ k % 2 ^ 64) l ≡ (l == k)
word_bit-moved k l lt = word_bit-cut (1 * 2 ^ k) 64 l lt ∙ ap (λ n. word_bit n l) {x = 1 * 2 ^ k} {y = 2 ^ k} (omega arith) ∙ word_bit-pow k l

-- words of which one has such a bit
wide_bit-with : (n k l w : ℕ) → w ≡ 1 * 2 ^ (k % 64) % 2 ^ 64 → k / 64 < n → l < 64 * n → wide_bit (set (replicate n 0) (k / 64) w) l ≡ (l == k)
wide_bit-with n k l w is within lt = by_word (cases_eq (l / 64) (k / 64))
  where
    by_bit : l / 64 ≡ k / 64 → (l % 64 ≡ k % 64) ⊎ (l % 64 ≡ k % 64 → ⊥) → (l % 64 == k % 64) ≡ (l == k)
    by_bit e (inl r) = alike (l % 64) (k % 64) r ∙ sym (alike l k (omega (arith, e, r)))
    by_bit e (inr ne) = distinct (l % 64) (k % 64) ne ∙ sym (distinct l k (λ same. ne (ap (λ m. m % 64) same)))

    by_word : (l / 64 ≡ k / 64) ⊎ (l / 64 ≡ k / 64 → ⊥) → wide_bit (set (replicate n 0) (k / 64) w) l ≡ (l == k)
    by_word (inl e) =
        ap (λ p. word_bit (get_or (set (replicate n 0) (k / 64) w) p 0) (l % 64)) e
        ∙ ap (λ w. word_bit w (l % 64)) (get_or-set_same (replicate n 0) (k / 64) w 0 (omega (arith, within, long)))
        ∙ ap (λ w. word_bit w (l % 64)) is
        ∙ word_bit-moved (k % 64) (l % 64) (omega arith)
        ∙ by_bit e (cases_eq (l % 64) (k % 64))
      where
        long : length {A = ℕ} (replicate n 0) ≡ n
        long = length-replicate {A = ℕ} n 0
    by_word (inr ne) =
        ap (λ w. word_bit w (l % 64)) (get_or-set_other (replicate n 0) (k / 64) (l / 64) w 0 ne ∙ get_or-replicate n (l / 64) 0 0 (omega (arith, lt)))
        ∙ word_bit-zero (l % 64)
        ∙ sym (distinct l k (λ same. ne (ap (λ m. m / 64) same)))

pub one_wide_bit : (n k l : ℕ) → k / 64 < n → l < 64 * n → wide_bit (set (replicate n 0) (k / 64) (1 * 2 ^ (k % 64) % 2 ^ 64)) l ≡ (l == k)
one_wide_bit n k l within lt = wide_bit-with n k l (1 * 2 ^ (k % 64) % 2 ^ 64) refl within lt

pub no_wide_bit : (n k l : ℕ) → n ≤ k / 64 → l < 64 * n → wide_bit (replicate n 0) l ≡ (l == k)
no_wide_bit n k l high lt =
    wide_bit-all n 0 l false lt (λ r less. word_bit-zero r) ∙ sym (distinct l k (λ same. absurd (omega (arith, ap (λ m. m / 64) same, high, lt))))

-- the lane that a search finds

module _ (numbers : List ℕ) (up : AreAscending numbers) (t : ℕ) where
  pub rising : (i j : ℕ) → i ≤ j → j < length numbers → get_or numbers i 0 ≤ get_or numbers j 0
  rising i j le within = by_cases (cases_eq i j)
    where
      by_cases : (i ≡ j) ⊎ (i ≡ j → ⊥) → get_or numbers i 0 ≤ get_or numbers j 0
      by_cases (inl e) = omega (arith, ap (λ k. get_or numbers k 0) e)
      by_cases (inr ne) = let h = up i j (omega (arith, le, ne)) within in omega (arith, h)

  always : (l : ℕ) → l < length numbers → get_or numbers l 0 ≡ t → unit_coin numbers l t ≡ true
  always l lt e = λ i. is_less l (length numbers) lt i && alike (get_or numbers l 0) t e i

  never : (l : ℕ) → (l < length numbers → get_or numbers l 0 ≡ t → ⊥) → unit_coin numbers l t ≡ false
  never l none = by_cases (cases_lt l (length numbers))
    where
      by_cases : (l < length numbers) ⊎ (length numbers ≤ l) → unit_coin numbers l t ≡ false
      by_cases (inl lt) = λ i. is_less l (length numbers) lt i && distinct (get_or numbers l 0) t (none lt) i
      by_cases (inr le) = ap (λ b. b && (get_or numbers l 0 == t)) (is_beyond l (length numbers) le)

  pub unit-found : (k l : ℕ) → k < length numbers → get_or numbers k 0 ≡ t → (l == k) ≡ unit_coin numbers l t
  unit-found k l within here = by_cases (cases_eq l k)
    where
      other : (l ≡ k → ⊥) → l < length numbers → get_or numbers l 0 ≡ t → ⊥
      other ne lt e = by_order (cases_lt l k)
        where
          by_order : (l < k) ⊎ (k ≤ l) → ⊥
          by_order (inl less) = let h = up l k less within in absurd (omega (arith, h, e, here))
          by_order (inr le) = let h = up k l (omega (arith, le, ne)) lt in absurd (omega (arith, h, e, here))

      by_cases : (l ≡ k) ⊎ (l ≡ k → ⊥) → (l == k) ≡ unit_coin numbers l t
      by_cases (inl e) = alike l k e ∙ sym (always l (omega (arith, e, within)) (ap (λ m. get_or numbers m 0) e ∙ here))
      by_cases (inr ne) = distinct l k ne ∙ sym (never l (other ne))

  pub unit-absent : (k l : ℕ) → ((i : ℕ) → i < k → get_or numbers i 0 < t) → ((i : ℕ) → k ≤ i → i < length numbers → t < get_or numbers i 0) → false ≡ unit_coin numbers l t
  unit-absent k l below above = sym (never l none)
    where
      none : l < length numbers → get_or numbers l 0 ≡ t → ⊥
      none lt e = by_order (cases_lt l k)
        where
          by_order : (l < k) ⊎ (k ≤ l) → ⊥
          by_order (inl less) = let h = below l less in absurd (omega (arith, h, e))
          by_order (inr le) = let h = above l le lt in absurd (omega (arith, h, e))

  pub unit-ok : (k : ℕ) → IsBinarySearchResult (λ y. nat_cmp y t) numbers (Ok k) → (l : ℕ) → (l == k) ≡ unit_coin numbers l t
  unit-ok k at l = let found = searched numbers t (Ok k) at rising in unit-found k l found.0 found.1

  pub unit-err : (k : ℕ) → IsBinarySearchResult (λ y. nat_cmp y t) numbers (Err k) → (l : ℕ) → false ≡ unit_coin numbers l t
  unit-err k at l = let found = searched numbers t (Err k) at rising in unit-absent k l found.1 found.2
