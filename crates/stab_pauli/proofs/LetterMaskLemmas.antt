-- Which letters are not I, by a mask: those of one word, and those of a string in its words.
use Rattle.stab_pauli.proofs.Names.{◌≡◌, ◌≢◌, ℕ, ◌+◌, ◌*◌, ◌/◌, ◌%◌, ◌<◌, ◌≤◌, true, false, sym, ◌∙◌, ap, List, length, get_or, take, arith, inl, inr, ◌⊎◌, bit_or, get_or-take, get_or_past, I, chooses, row_letters, IsRow}
use Rattle.stab_pauli.proofs.MaskLemmas.{bit-chosen, bit-unchosen}
use Rattle.stab_pauli.proofs.NextLetterLemmas.{blank_letter, letter_there}
use Rattle.stab_pauli.proofs.PaddedLemmas.{length-string}
use Rattle.stab_pauli.proofs.PositionLemmas.{x_position, bits_letter, letter_at_position}
use Rattle.stab_pauli.proofs.XPartLemmas.{before, blank_after}

-- the letters of a word

module _ (m : ℕ) (row : List ℕ) (w at k : ℕ) (size : length row ≡ 8 * m) (lt : w < 4 * m) (ea : at ≡ 8 * (w / 4) + w % 4) (lk : k < 64) where
  letter_is : get_or (row_letters m row) (64 * w + k) I ≡ bits_letter (get_or row at 0) (get_or row (at + 4) 0) k
  letter_is =
      letter_at_position m row (64 * w + k) at size (omega arith) (let here : at ≡ x_position (64 * w + k) = omega arith in here)
      ∙ ap (bits_letter (get_or row at 0) (get_or row (at + 4) 0)) (let e : (64 * w + k) % 64 ≡ k = omega arith in e)

  pub mask-letter : chooses (bit_or (get_or row at 0) (get_or row (at + 4) 0)) k ≡ true → get_or (row_letters m row) (64 * w + k) I ≢ I
  mask-letter one e =
      letter_there (get_or row at 0) (get_or row (at + 4) 0) k (bit-chosen (bit_or (get_or row at 0) (get_or row (at + 4) 0)) k one) (sym letter_is ∙ e)

  pub mask-blank : chooses (bit_or (get_or row at 0) (get_or row (at + 4) 0)) k ≡ false → get_or (row_letters m row) (64 * w + k) I ≡ I
  mask-blank none = letter_is ∙ blank_letter (get_or row at 0) (get_or row (at + 4) 0) k (bit-unchosen (bit_or (get_or row at 0) (get_or row (at + 4) 0)) k none)

-- a string in its words, if all later letters are I

module _ (n m : ℕ) (ws : List ℕ) (is : IsRow n m ws) where
  pub string-letter : (j : ℕ) → get_or (take n (row_letters m ws)) j I ≡ get_or (row_letters m ws) j I
  string-letter j = by_position (before j n)
    where
      by_position : (j < n) ⊎ (n ≤ j) → get_or (take n (row_letters m ws)) j I ≡ get_or (row_letters m ws) j I
      by_position (inl lt) = get_or-take n (row_letters m ws) j I lt
      by_position (inr le) = get_or_past (take n (row_letters m ws)) j I (let l = length-string n m ws is in omega arith) ∙ sym (blank_after n m ws j is le)

  pub letter-inside : (j : ℕ) → get_or (row_letters m ws) j I ≢ I → j < n
  letter-inside j there = by_position (before j n)
    where
      by_position : (j < n) ⊎ (n ≤ j) → j < n
      by_position (inl lt) = lt
      by_position (inr le) = absurd (there (blank_after n m ws j is le))
