-- Numbers that are the first of several words.
use Rattle.stab_circuit.proofs.Names.{◌≡◌, ◌<◌, ◌≤◌, ℕ, zero, suc, Bool, true, false, List, [], ◌∷◌, length, take, drop, get_or, refl, sym, ap, subst, ◌∙◌, arith, drop-cons, length-take, position_or_len, list_all, nat_tests, get_or-take, position_or_len_is, list_all_at, is_spacing, is_digit, trimmed_front, is_some_word, value, is_word_end, BeginsWithNumber, IsAfterWord}
use Rattle.stab_instructions.proofs.BoolLemmas.{both, and_left}
use Rattle.stab_instructions.proofs.LackLemmas.{prefix_no}
use Rattle.stab_instructions.proofs.PieceLemmas.{one_word, rest_shorter}

-- a digit is no spacing
pub digit_solid : (b : ℕ) → is_digit b ≡ true → is_spacing b ≡ false
digit_solid b h = grind (arith, nat_tests)

end_spacing : (bs : List ℕ) (n : ℕ) → n < length bs → is_word_end (drop n bs) ≡ true → is_spacing (get_or bs n 0) ≡ true
end_spacing bs n lt e = subst (λ l. is_word_end l ≡ true) (drop-cons bs n 0 lt) e

passes_at : (p : ℕ → Bool) (xs : List ℕ) (k : ℕ) (b : Bool) → k < length xs → p (get_or xs k 0) ≡ b → list_all p xs ≡ true → b ≡ true
passes_at p xs k true lt e h = refl
passes_at p xs k false lt e h = sym (list_all_at p xs k 0 lt e) ∙ h

-- digits up to the end of a word are before the first spacing
number_end : (bs : List ℕ) (n : ℕ) → n ≤ length bs → list_all is_digit (take n bs) ≡ true → is_word_end (drop n bs) ≡ true → n ≡ position_or_len is_spacing bs
number_end bs n within digits end =
    sym (position_or_len_is is_spacing bs n 0 within (λ k lt. digit_solid (get_or bs k 0) (at k lt)) (λ lt. end_spacing bs n lt end))
  where
    at : (k : ℕ) → k < n → is_digit (get_or bs k 0) ≡ true
    at k lt = ap is_digit (sym (get_or-take n bs k 0 lt)) ∙ passes_at is_digit (take n bs) k (is_digit (get_or (take n bs) k 0)) (omega (arith, length-take n bs, within, lt)) refl digits

pub some_taken : (bs : List ℕ) (n : ℕ) → 0 < n → n ≤ length bs → is_some_word (take n bs) ≡ true
some_taken [] n h within = absurd (omega (arith, h, within))
some_taken (b ∷ bs) n h within = let one = length-take n (b ∷ bs) in grind (arith, nat_tests)

-- a number in front is the first word
pub number_begins : (bs front rest : List ℕ) (n number : ℕ) → front ≡ trimmed_front bs → 0 < n → n ≤ length front → list_all is_digit (take n front) ≡ true
    → number ≡ value (take n front) → IsAfterWord (drop n front) rest → BeginsWithNumber bs number rest
number_begins bs front rest n number e some within digits same following =
    let position = number_end front n within digits following.0 in (
      take n front,
      one_word bs front n e (omega (arith, some, within)) position ∙ ap (λ ws. take n front ∷ ws) (sym following.1),
      both (is_some_word (take n front)) _ (some_taken front n some within) digits,
      sym same,
    )

-- what follows a number in front is shorter
pub number_ends : (bs front rest : List ℕ) (n : ℕ) → front ≡ trimmed_front bs → 0 < n → n ≤ length front → list_all is_digit (take n front) ≡ true → IsAfterWord (drop n front) rest → length rest < length bs
number_ends bs front rest n e some within digits following =
    let shorter = rest_shorter bs front n e (omega (arith, some, within)) (number_end front n within digits following.0) in
    omega (arith, shorter, following.2)

-- there is no spacing before digits
pub digits_front : (bs : List ℕ) (n : ℕ) → 0 < n → n ≤ length bs → list_all is_digit (take n bs) ≡ true → bs ≡ trimmed_front bs
digits_front [] n some within digits = absurd (omega (arith, some, within))
digits_front (b ∷ bs) zero some within digits = absurd (omega arith)
digits_front (b ∷ bs) (suc n) some within digits = sym (ap (λ k. drop k (b ∷ bs)) (prefix_no is_spacing b bs (digit_solid b (and_left (is_digit b) (list_all is_digit (take n bs)) digits))))
