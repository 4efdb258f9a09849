-- The next letter that is not I: what a walk over words knows.
use Rattle.stab_pauli.proofs.Names.{◌≡◌, ◌≢◌, ℕ, ◌+◌, ◌*◌, ◌/◌, ◌%◌, ◌^◌, ◌<◌, ◌≤◌, Bool, true, false, refl, sym, ◌∙◌, ap, subst, List, length, get_or, take, arith, eqb, inl, inr, ◌⊎◌, bit_or, bit_at, trailing_zeros, w64, shr-shr, bit_at-zero, bit_at-lt, bit_at_or, bit_at_above, bit_at-trailing_zeros, get_or-take, I, letter_of_bits, row_letters, IsRow, IsBlankFrom, IsNextBit, IsNextLetter}
use Rattle.std.specs.Prelude.{◌-◌}
use Rattle.stab_pauli.proofs.BitLemmas.{two_cases}
use Rattle.stab_pauli.proofs.MaskLemmas.{clash}
use Rattle.stab_pauli.proofs.BlankLemmas.{fits}
use Rattle.stab_pauli.proofs.PositionLemmas.{x_position, bits_letter, letter_at_position}
use Rattle.stab_pauli.proofs.XPartLemmas.{before, blank_after}

-- bits of a word after the first s

pub bit_after : (word s i : ℕ) → bit_at (word / 2 ^ s) i ≡ bit_at word (s + i)
bit_after word s i = ap (λ x. x % 2) (shr-shr word s i)

moved_back : (word s k : ℕ) → s ≤ k → bit_at word k ≡ bit_at (word / 2 ^ s) (k - s)
moved_back word s k le = ap (bit_at word) (let e : k ≡ s + (k - s) = omega arith in e) ∙ sym (bit_after word s (k - s))

pub no_bit : (word s rest : ℕ) → rest ≡ word / 2 ^ s → rest ≡ 0 → (k : ℕ) → s ≤ k → k < 64 → bit_at word k ≡ 0
no_bit word s rest e none k le lt = moved_back word s k le ∙ ap (λ w. bit_at w (k - s)) (sym e ∙ none) ∙ bit_at-zero (k - s)

pub next_bit-found : (word s rest : ℕ) → rest ≡ word / 2 ^ s → word < 2 ^ 64 → 0 < rest → rest < 2 ^ 64 → IsNextBit s word (s + trailing_zeros w64 rest)
next_bit-found word s rest e small pos fits = record {
  from_there = omega arith;
  in_range = by_position (before (s + trailing_zeros w64 rest) 64);
  blank = λ j le lt. moved_back word s j le ∙ ap (λ w. bit_at w (j - s)) (sym e) ∙ found.2 (j - s) (omega arith);
  is_one = one;
}
  where
    found : (trailing_zeros w64 rest < 64) × (bit_at rest (trailing_zeros w64 rest) ≡ 1) × ((i : ℕ) → i < trailing_zeros w64 rest → bit_at rest i ≡ 0)
    found = bit_at-trailing_zeros w64 rest pos fits

    one : bit_at word (s + trailing_zeros w64 rest) ≡ 1
    one = sym (bit_after word s (trailing_zeros w64 rest)) ∙ ap (λ w. bit_at w (trailing_zeros w64 rest)) (sym e) ∙ found.1

    by_position : (s + trailing_zeros w64 rest < 64) ⊎ (64 ≤ s + trailing_zeros w64 rest) → s + trailing_zeros w64 rest < 64
    by_position (inl lt) = lt
    by_position (inr le) = absurd (let zero_there = bit_at_above word 64 (s + trailing_zeros w64 rest) small le in omega (arith, one, zero_there))

-- letters of a word

no_bits : (a b : Bool) → letter_of_bits a b ≡ I → (a ≡ false) × (b ≡ false)
no_bits false false e = (refl, refl)
no_bits false true e = cc
no_bits true false e = cc
no_bits true true e = cc

pub blank_letter : (x z bit : ℕ) → bit_at (bit_or x z) bit ≡ 0 → bits_letter x z bit ≡ I
blank_letter x z bit none = λ i. letter_of_bits (eqb (x0 i) 1) (eqb (z0 i) 1)
  where
    x0 : bit_at x bit ≡ 0
    x0 = let both = bit_at_or x z bit in omega (arith, both, none)

    z0 : bit_at z bit ≡ 0
    z0 = let both = bit_at_or x z bit in omega (arith, both, none)

pub letter_there : (x z bit : ℕ) → bit_at (bit_or x z) bit ≡ 1 → bits_letter x z bit ≢ I
letter_there x z bit one e = by_bits (two_cases (bit_at x bit) (bit_at-lt x bit)) (two_cases (bit_at z bit) (bit_at-lt z bit))
  where
    no : (eqb (bit_at x bit) 1 ≡ false) × (eqb (bit_at z bit) 1 ≡ false)
    no = no_bits (eqb (bit_at x bit) 1) (eqb (bit_at z bit) 1) e

    by_bits : (bit_at x bit ≡ 0) ⊎ (bit_at x bit ≡ 1) → (bit_at z bit ≡ 0) ⊎ (bit_at z bit ≡ 1) → ⊥
    by_bits (inl x0) (inl z0) = let both = bit_at_or x z bit in omega (arith, both, one, x0, z0)
    by_bits (inr x1) z = clash (eqb (bit_at x bit) 1) (ap (λ n. eqb n 1) x1) no.0
    by_bits (inl x0) (inr z1) = clash (eqb (bit_at z bit) 1) (ap (λ n. eqb n 1) z1) no.1

-- a word further
module _ (m : ℕ) (row : List ℕ) (from w at start : ℕ) (size : length row ≡ 8 * m) (lt : w < 4 * m) (ea : at ≡ 8 * (w / 4) + w % 4) (es : start ≡ from - 64 * w)
    (h : IsBlankFrom from (64 * w) (row_letters m row)) where
  letter_is : (j : ℕ) → 64 * w ≤ j → j < 64 * (w + 1) → get_or (row_letters m row) j I ≡ bits_letter (get_or row at 0) (get_or row (at + 4) 0) (j % 64)
  letter_is j le lj = letter_at_position m row j at size (omega arith) (let here : at ≡ x_position j = omega arith in here)

  blank_to : (b : ℕ) → b ≤ 64 → ((k : ℕ) → start ≤ k → k < b → bit_at (bit_or (get_or row at 0) (get_or row (at + 4) 0)) k ≡ 0)
      → IsBlankFrom from (64 * w + b) (row_letters m row)
  blank_to b lb none j le lj = by_position (before j (64 * w))
    where
      by_position : (j < 64 * w) ⊎ (64 * w ≤ j) → get_or (row_letters m row) j I ≡ I
      by_position (inl early) = h j le early
      by_position (inr late) =
          letter_is j late (omega arith) ∙ blank_letter (get_or row at 0) (get_or row (at + 4) 0) (j % 64) (none (j % 64) (omega arith) (omega arith))

  pub blank_word : ((k : ℕ) → start ≤ k → k < 64 → bit_at (bit_or (get_or row at 0) (get_or row (at + 4) 0)) k ≡ 0) → IsBlankFrom from (64 * (w + 1)) (row_letters m row)
  blank_word none = let e : 64 * w + 64 ≡ 64 * (w + 1) = omega arith in subst (λ k. IsBlankFrom from k (row_letters m row)) e (blank_to 64 (omega arith) none)

  pub letter_found : (b : ℕ) → IsNextBit start (bit_or (get_or row at 0) (get_or row (at + 4) 0)) b → IsNextLetter from (256 * m) (row_letters m row) (64 * w + b)
  letter_found b next =
      let lb = next.in_range in
      let fb = next.from_there in
      record {
        from_there = omega arith;
        in_range = omega arith;
        blank = blank_to b (omega arith) next.blank;
        here = λ e. letter_there (get_or row at 0) (get_or row (at + 4) 0) b next.is_one
            (ap (bits_letter (get_or row at 0) (get_or row (at + 4) 0)) (let eb : b ≡ (64 * w + b) % 64 = omega arith in eb) ∙ sym (letter_is (64 * w + b) (omega arith) (omega arith)) ∙ e);
      }

-- among the first n letters, if all later ones are I

module _ (n m from : ℕ) (ws : List ℕ) (is : IsRow n m ws) where
  pub next_inside : (k : ℕ) → IsNextLetter from (256 * m) (row_letters m ws) k → IsNextLetter from n (take n (row_letters m ws)) k
  next_inside k next =
      let lt : k < n = by_position (before k n) in
      record {
        from_there = next.from_there;
        in_range = lt;
        blank = λ j le lj. get_or-take n (row_letters m ws) j I (omega arith) ∙ next.blank j le lj;
        here = λ e. next.here (sym (get_or-take n (row_letters m ws) k I lt) ∙ e);
      }
    where
      by_position : (k < n) ⊎ (n ≤ k) → k < n
      by_position (inl lt) = lt
      by_position (inr le) = absurd (next.here (blank_after n m ws k is le))

  pub blank_inside : IsBlankFrom from (256 * m) (row_letters m ws) → IsBlankFrom from n (take n (row_letters m ws))
  blank_inside h j le lj = let f = fits n m is.blocks in get_or-take n (row_letters m ws) j I lj ∙ h j le (omega arith)
