-- Parities: what errors flip together, as their variables are added one after another.
use Rattle.stab_search.proofs.Names.{◌≡◌, ℕ, ◌+◌, ◌<◌, ◌⊎◌, inl, inr, refl, sym, ◌∙◌, ap, ap₂, arith, Bool, true, false, List, [], ◌∷◌, ◌++◌, length, ◌&&◌, ◌==◌, set, cases_eq, ne_eqb, eq-eqb, parity-false, parity-assoc, ◌⊕◌, odd, Sum, AreSums, variable_value, parity_variable, flipped_in_sum, AreParities, Adds}
use Rattle.stab_parities.proofs.MergeLemmas.{odd-append}
use Rattle.std.proofs.lemmas.Grind.{get_or-set_at}
use Rattle.std.proofs.lemmas.List.{get_or-set_other}
use Rattle.stab_search.proofs.SumLemmas.{value-there, sums-front, sums-last}

-- a bit that is added if another is
pub and-false : (b : Bool) → (b && false) ≡ false
and-false false = refl
and-false true = refl

pub and-true : (b : Bool) → (b && true) ≡ b
and-true false = refl
and-true true = refl

pub and-sum : (b x y : Bool) → (b && x) ⊕ (b && y) ≡ (b && (x ⊕ y))
and-sum false x y = refl
and-sum true x y = refl

-- nothing is added
pub adds-none : (v : ℕ) (sums : List Sum) (parities : List ℕ) → Adds v [] sums parities sums parities
adds-none v sums parities = record {
  preserved = λ a are. are;
  added = λ a are i. sym (ap (λ b. variable_value a (parity_variable parities i) ⊕ b) (and-false (a v)) ∙ parity-false (variable_value a (parity_variable parities i)));
}

-- numbers after numbers
pub adds-more : (v : ℕ) (xs ys : List ℕ) (s : List Sum) (p : List ℕ) (s' : List Sum) (p' : List ℕ) (s'' : List Sum) (p'' : List ℕ)
    → Adds v xs s p s' p' → Adds v ys s' p' s'' p'' → Adds v (xs ++ ys) s p s'' p''
adds-more v xs ys s p s' p' s'' p'' one two = record {
  preserved = λ a are. one.preserved a (two.preserved a are);
  added = λ a are i.
      two.added a are i ∙ ap (λ b. b ⊕ (a v && odd i ys)) (one.added a (two.preserved a are) i)
      ∙ parity-assoc (variable_value a (parity_variable p i)) (a v && odd i xs) (a v && odd i ys)
      ∙ ap (λ b. variable_value a (parity_variable p i) ⊕ b) (and-sum (a v) (odd i xs) (odd i ys) ∙ ap (λ b. a v && b) (sym (odd-append i xs ys)));
}

-- errors after errors
pub flipped-append : (a : ℕ → Bool) (v : ℕ) (xs : List (List ℕ)) (r : List ℕ) (i : ℕ) → flipped_in_sum a v (xs ++ r ∷ []) i ≡ flipped_in_sum a v xs i ⊕ (a (v + length xs) && odd i r)
flipped-append a v [] r i = parity-false (a v && odd i r) ∙ ap (λ w. a w && odd i r) (omega arith)
flipped-append a v (x ∷ xs) r i =
    ap (λ b. (a v && odd i x) ⊕ b) (flipped-append a (v + 1) xs r i)
    ∙ sym (parity-assoc (a v && odd i x) (flipped_in_sum a (v + 1) xs i) (a ((v + 1) + length xs) && odd i r))
    ∙ ap (λ w. ((a v && odd i x) ⊕ flipped_in_sum a (v + 1) xs i) ⊕ (a w && odd i r)) (omega arith)

pub parities-more : (rows : List (List ℕ)) (r : List ℕ) (v : ℕ) (s : List Sum) (p : List ℕ) (s' : List Sum) (p' : List ℕ) → v ≡ length rows + 1
    → AreParities rows s p → Adds v r s p s' p' → AreParities (rows ++ r ∷ []) s' p'
parities-more rows r v s p s' p' is are adds a sums i =
    adds.added a sums i ∙ ap (λ b. b ⊕ (a v && odd i r)) (are a (adds.preserved a sums) i)
    ∙ ap (λ w. flipped_in_sum a 1 rows i ⊕ (a w && odd i r)) (is ∙ omega arith) ∙ sym (flipped-append a 1 rows r i)

-- what is added at one number, by the variable that is put there
pub adds-one : (v n w : ℕ) (s s' : List Sum) (p q : List ℕ) → n < length q → ((i : ℕ) → parity_variable q i ≡ parity_variable p i) → ((a : ℕ → Bool) → AreSums a s' → AreSums a s)
    → ((a : ℕ → Bool) → AreSums a s' → variable_value a w ≡ variable_value a (parity_variable p n) ⊕ a v) → Adds v (n ∷ []) s p s' (set q n w)
adds-one v n w s s' p q less same preserved sum = record {
  preserved = preserved;
  added = λ a are i. at a are i (cases_eq i n);
}
  where
    at : (a : ℕ → Bool) → AreSums a s' → (i : ℕ) → (i ≡ n) ⊎ (i ≡ n → ⊥) → variable_value a (parity_variable (set q n w) i) ≡ variable_value a (parity_variable p i) ⊕ (a v && ((n == i) ⊕ false))
    at a are i (inl here) =
        ap (variable_value a) (get_or-set_at q n i w 0 here less) ∙ sum a are
        ∙ sym (ap₂ (λ x y. variable_value a (parity_variable p x) ⊕ y) here (ap (λ b. a v && (b ⊕ false)) (eq-eqb n i (sym here)) ∙ and-true (a v)))
    at a are i (inr other) =
        ap (variable_value a) (get_or-set_other q n i w 0 other ∙ same i)
        ∙ sym (ap (λ b. variable_value a (parity_variable p i) ⊕ (a v && (b ⊕ false))) (ne_eqb n i (λ e. other (sym e))) ∙ ap (λ b. variable_value a (parity_variable p i) ⊕ b) (and-false (a v)) ∙ parity-false (variable_value a (parity_variable p i)))

-- another error that flips it: a sum is put there
pub adds-sum : (v n : ℕ) (s : List Sum) (p q : List ℕ) (new : Sum) → n < length q → ((i : ℕ) → parity_variable q i ≡ parity_variable p i) → 0 < new.left → 0 < new.both → new.left ≡ parity_variable q n → new.right ≡ v
    → Adds v (n ∷ []) s p (s ++ new ∷ []) (set q n new.both)
adds-sum v n s p q new less same left both is_left is_right =
    adds-one v n new.both s (s ++ new ∷ []) p q less same (λ a are. sums-front a s new are)
    (λ a are.
    value-there a new.both both ∙ sums-last a s new are
    ∙ ap₂ (λ x y. x ⊕ a y) (sym (value-there a new.left left) ∙ ap (variable_value a) (is_left ∙ same n)) is_right)
