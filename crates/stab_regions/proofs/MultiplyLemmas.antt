-- Multiplying strings by a letter: the rows that change, and the strings that they then show.
use Rattle.stab_regions.proofs.Names.{◌≡◌, ◌≢◌, ℕ, ◌<◌, sym, ◌∙◌, ap, arith, Bool, true, false, ◌&&◌, ◌⊎◌, inl, inr, List, cases_eq, Letter, X, Z, ◌⊕◌, letter_product, letters_anticommute, Signed, single, get_or-string_product, letter_at, here_one_letter, off_one_letter, product_where, odd, row, TogglesWhere, MovesLetters, multiplied}

by-product : (p l m : Letter) → letters_anticommute p m ⊕ (letters_anticommute l p && true) ≡ letters_anticommute p (letter_product l m)
by-product p l m = grind arith

without : (a b : Bool) → a ⊕ (b && false) ≡ a
without a b = grind arith

module _ (i n q : ℕ) (p l : Letter) (old new : List (List ℕ)) (s : Signed) (lt : q < n)
    (elsewhere : (k : ℕ) → k ≢ q → row new k ≡ row old k) (shows : (k : ℕ) → odd i (row old k) ≡ letters_anticommute p (letter_at s.letters k)) where
  plain : (here : odd i (row new q) ≡ odd i (row old q) ⊕ (letters_anticommute l p && false)) (k : ℕ) → (k ≡ q) ⊎ (k ≡ q → ⊥)
      → odd i (row new k) ≡ letters_anticommute p (letter_at s.letters k)
  plain here k (inl e) = ap (λ j. odd i (row new j)) e ∙ here ∙ without _ (letters_anticommute l p) ∙ ap (λ j. odd i (row old j)) (sym e) ∙ shows k
  plain here k (inr ne) = ap (odd i) (elsewhere k ne) ∙ shows k

  times : (here : odd i (row new q) ≡ odd i (row old q) ⊕ (letters_anticommute l p && true)) (k : ℕ) → (k ≡ q) ⊎ (k ≡ q → ⊥)
      → odd i (row new k) ≡ letters_anticommute p (letter_at (product_where true (single n q l) s).letters k)
  times here k (inl e) =
      ap (λ j. odd i (row new j)) e ∙ here ∙ ap (λ b. b ⊕ (letters_anticommute l p && true)) (shows q)
      ∙ by-product p l (letter_at s.letters q)
      ∙ ap (λ m. letters_anticommute p (letter_product m (letter_at s.letters q))) (sym (here_one_letter n q l lt))
      ∙ ap (letters_anticommute p) (sym (get_or-string_product (single n q l).letters s.letters q))
      ∙ ap (λ j. letters_anticommute p (letter_at (product_where true (single n q l) s).letters j)) (sym e)
  times here k (inr ne) =
      ap (odd i) (elsewhere k ne) ∙ shows k
      ∙ ap (λ m. letters_anticommute p (letter_product m (letter_at s.letters k))) (sym (off_one_letter n q k l ne))
      ∙ ap (letters_anticommute p) (sym (get_or-string_product (single n q l).letters s.letters k))

  row-multiplies : (b : Bool) → odd i (row new q) ≡ odd i (row old q) ⊕ (letters_anticommute l p && b) → (k : ℕ)
      → odd i (row new k) ≡ letters_anticommute p (letter_at (product_where b (single n q l) s).letters k)
  row-multiplies true here k = times here k (cases_eq k q)
  row-multiplies false here k = plain here k (cases_eq k q)

pub multiply-moves : (n q : ℕ) (l : Letter) (numbers : List ℕ) (old_x old_z new_x new_z : List (List ℕ)) → q < n
    → TogglesWhere (letters_anticommute l X) old_x new_x q numbers → TogglesWhere (letters_anticommute l Z) old_z new_z q numbers
    → MovesLetters n (multiplied n l q numbers) old_x old_z new_x new_z
multiply-moves n q l numbers old_x old_z new_x new_z lt tx tz i s long shows = record {
  x = row-multiplies i n q X l old_x new_x s lt tx.elsewhere shows.x (odd i numbers) (tx.here i);
  z = row-multiplies i n q Z l old_z new_z s lt tz.elsewhere shows.z (odd i numbers) (tz.here i);
}
