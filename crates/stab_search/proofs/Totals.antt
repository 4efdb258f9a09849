-- Totals of lists in a group in which each element is its own inverse, such as bits and numbers by exclusive or.
use Rattle.stab_search.proofs.Names.{◌≡◌, ℕ, zero, suc, ◌≤◌, ◌⊎◌, inl, inr, refl, sym, ◌∙◌, ap, arith, Bool, true, false, not, ◌||◌, List, [], ◌∷◌, ◌++◌, length, ne_eqb, ◌==◌, bit_xor, eqb-true, eq-eqb, cases_eq, false≢true, or_left, or_right, xor_comm, xor_assoc, xor_self, xor_zero_r, ◌⊕◌, parity-comm, parity-assoc, parity-self, parity-twice, odd, has, toggle}
use Rattle.std.specs.Prelude.{◌≢◌}
use Rattle.stab_parities.proofs.MergeLemmas.{odd-append}
use Rattle.stab_search.proofs.ListLemmas.{by-bit, without, without-here, without-there, length-without, toggle-here, toggle-out, toggle-there, by-position}

-- a group in which each element is its own inverse
pub record IsGroup {A : Type 0} (unit : A) (op : A → A → A) : Type 0 where
  pub unit_left : (a : A) → op unit a ≡ a
  pub comm : (a b : A) → op a b ≡ op b a
  pub assoc : (a b c : A) → op (op a b) c ≡ op a (op b c)
  pub twice : (a b : A) → op a (op a b) ≡ b

pub bits : IsGroup false ◌⊕◌
bits = record { unit_left = λ a. refl; comm = parity-comm; assoc = parity-assoc; twice = parity-twice }

pub masks : IsGroup 0 bit_xor
masks = record {
  unit_left = λ a. xor_comm 0 a ∙ xor_zero_r a;
  comm = xor_comm;
  assoc = xor_assoc;
  twice = λ a b. sym (xor_assoc a a b) ∙ ap (λ m. bit_xor m b) (xor_self a) ∙ xor_comm 0 b ∙ xor_zero_r b;
}

-- the total of what the numbers of a list stand for
abbrev pub total : {A : Type 0} → A → (A → A → A) → (ℕ → A) → List ℕ → A
total unit op v [] = unit
total unit op v (x ∷ xs) = op (v x) (total unit op v xs)

module _ (A : Type 0) (unit : A) (op : A → A → A) (group : IsGroup unit op) where
  pub swap : (a b c : A) → op a (op b c) ≡ op b (op a c)
  swap a b c = sym (group.assoc a b c) ∙ ap (λ t. op t c) (group.comm a b) ∙ group.assoc b a c

  module _ (v : ℕ → A) where
    pub total-append : (xs ys : List ℕ) → total unit op v (xs ++ ys) ≡ op (total unit op v xs) (total unit op v ys)
    total-append [] ys = sym (group.unit_left (total unit op v ys))
    total-append (x ∷ xs) ys = ap (op (v x)) (total-append xs ys) ∙ sym (group.assoc (v x) (total unit op v xs) (total unit op v ys))

    pub total-without : (g : ℕ) (xs : List ℕ) → has g xs ≡ true → total unit op v xs ≡ op (v g) (total unit op v (without g xs))
    total-without g [] e = absurd (false≢true e)
    total-without g (x ∷ xs) e =
        by-bit (x == g)
        (λ same.
        ap (λ k. op (v k) (total unit op v xs)) (eqb-true x g same)
        ∙ ap (λ ys. op (v g) (total unit op v ys)) (sym (without-here g x xs same)))
        (λ other.
        ap (op (v x)) (total-without g xs (ap (λ b. b || has g xs) (sym other) ∙ e))
        ∙ swap (v x) (v g) (total unit op v (without g xs))
        ∙ ap (λ ys. op (v g) (total unit op v ys)) (sym (without-there g x xs other)))

    pub total-toggle : (g : ℕ) (xs : List ℕ) → total unit op v (toggle g xs) ≡ op (v g) (total unit op v xs)
    total-toggle g [] = refl
    total-toggle g (x ∷ xs) =
        by-position g x
        (λ lt. ap (total unit op v) (toggle-here g x xs lt))
        (λ same.
        ap (total unit op v) (toggle-out g x xs same)
        ∙ sym (group.twice (v x) (total unit op v xs))
        ∙ ap (λ k. op (v k) (op (v x) (total unit op v xs))) same)
        (λ lt.
        ap (total unit op v) (toggle-there g x xs lt)
        ∙ ap (op (v x)) (total-toggle g xs)
        ∙ swap (v x) (v g) (total unit op v xs))

-- the parity of a number is a total
pub odd-total : (i : ℕ) (xs : List ℕ) → odd i xs ≡ total false ◌⊕◌ (λ k. k == i) xs
odd-total i [] = refl
odd-total i (x ∷ xs) = ap (λ b. (x == i) ⊕ b) (odd-total i xs)

pub odd-without : (g i : ℕ) (xs : List ℕ) → has g xs ≡ true → odd i xs ≡ (g == i) ⊕ odd i (without g xs)
odd-without g i xs e =
    odd-total i xs ∙ total-without _ false ◌⊕◌ bits (λ k. k == i) g xs e ∙ ap (λ b. (g == i) ⊕ b) (sym (odd-total i (without g xs)))

-- what is named an odd number of times is named
pub has-odd : (d : ℕ) (xs : List ℕ) → odd d xs ≡ true → has d xs ≡ true
has-odd d [] e = absurd (false≢true e)
has-odd d (x ∷ xs) e =
    by-bit (x == d)
    (λ same. or_left (x == d) (has d xs) same)
    (λ other. or_right (x == d) (has d xs) (has-odd d xs (ap (λ b. b ⊕ odd d xs) (sym other) ∙ e)))

not-false : (b : Bool) → not b ≡ false → b ≡ true
not-false true e = refl
not-false false e = absurd (false≢true (sym e))

odd-same : (x : ℕ) (xs : List ℕ) → odd x (x ∷ xs) ≡ not (odd x xs)
odd-same x xs = ap (λ b. b ⊕ odd x xs) (eq-eqb x x refl)

odd-other : (x i : ℕ) (xs : List ℕ) → x ≢ i → odd i (x ∷ xs) ≡ odd i xs
odd-other x i xs other = ap (λ b. b ⊕ odd i xs) (ne_eqb x i other)

-- if each number is there an even number of times, or for nothing, the total is nothing

module _ (A : Type 0) (unit : A) (op : A → A → A) (group : IsGroup unit op) (v : ℕ → A) where
  abbrev pub IsEven : List ℕ → Type 0
  IsEven xs = (i : ℕ) → (odd i xs ≡ false) ⊎ (v i ≡ unit)

  rest_of_nothing : (x : ℕ) (xs : List ℕ) → v x ≡ unit → IsEven (x ∷ xs) → IsEven xs
  rest_of_nothing x xs nothing even i = by_position (cases_eq x i) (even i)
    where
      by_position : (x ≡ i) ⊎ (x ≡ i → ⊥) → (odd i (x ∷ xs) ≡ false) ⊎ (v i ≡ unit) → (odd i xs ≡ false) ⊎ (v i ≡ unit)
      by_position (inl same) e = inr (ap v (sym same) ∙ nothing)
      by_position (inr other) (inl e) = inl (sym (odd-other x i xs other) ∙ e)
      by_position (inr other) (inr e) = inr e

  rest_of_two : (x : ℕ) (xs : List ℕ) → has x xs ≡ true → IsEven (x ∷ xs) → IsEven (without x xs)
  rest_of_two x xs there even i = by_case (even i)
    where
      same : odd i (x ∷ xs) ≡ odd i (without x xs)
      same = ap (λ b. (x == i) ⊕ b) (odd-without x i xs there) ∙ parity-twice (x == i) (odd i (without x xs))

      by_case : (odd i (x ∷ xs) ≡ false) ⊎ (v i ≡ unit) → (odd i (without x xs) ≡ false) ⊎ (v i ≡ unit)
      by_case (inl e) = inl (sym same ∙ e)
      by_case (inr e) = inr e

  none-step : (n x : ℕ) (xs : List ℕ) → ((ys : List ℕ) → length ys ≤ n → IsEven ys → total unit op v ys ≡ unit)
      → length (x ∷ xs) ≤ suc n → IsEven (x ∷ xs) → total unit op v (x ∷ xs) ≡ unit
  none-step n x xs fewer le even = by_head (even x)
    where
      by_head : (odd x (x ∷ xs) ≡ false) ⊎ (v x ≡ unit) → total unit op v (x ∷ xs) ≡ unit
      by_head (inr nothing) =
          ap (λ a. op a (total unit op v xs)) nothing ∙ group.unit_left (total unit op v xs)
          ∙ fewer xs (omega arith) (rest_of_nothing x xs nothing even)
      by_head (inl here) =
          let there = has-odd x xs (not-false (odd x xs) (sym (odd-same x xs) ∙ here)) in
          let shorter = length-without x xs there in
          ap (op (v x)) (total-without A unit op group v x xs there) ∙ group.twice (v x) (total unit op v (without x xs))
          ∙ fewer (without x xs) (omega arith) (rest_of_two x xs there even)

  none-within : (n : ℕ) (xs : List ℕ) → length xs ≤ n → IsEven xs → total unit op v xs ≡ unit
  none-within n [] le even = refl
  none-within zero (x ∷ xs) le even = absurd (omega arith)
  none-within (suc n) (x ∷ xs) le even = none-step n x xs (λ ys l e. none-within n ys l e) le even

  pub total-none : (xs : List ℕ) → IsEven xs → total unit op v xs ≡ unit
  total-none xs even = none-within (length xs) xs (omega arith) even

  -- lists whose numbers are named alike, except those that stand for nothing, have the same total
  pub total-same : (xs ys : List ℕ) → ((i : ℕ) → (odd i xs ≡ odd i ys) ⊎ (v i ≡ unit)) → total unit op v xs ≡ total unit op v ys
  total-same xs ys alike =
      sym (group.twice (total unit op v ys) (total unit op v xs))
      ∙ ap (op (total unit op v ys)) (group.comm (total unit op v ys) (total unit op v xs) ∙ sym (total-append A unit op group v xs ys) ∙ total-none (xs ++ ys) even)
      ∙ group.comm (total unit op v ys) unit ∙ group.unit_left (total unit op v ys)
    where
      even : IsEven (xs ++ ys)
      even i = by_case (alike i)
        where
          by_case : (odd i xs ≡ odd i ys) ⊎ (v i ≡ unit) → (odd i (xs ++ ys) ≡ false) ⊎ (v i ≡ unit)
          by_case (inl e) = inl (odd-append i xs ys ∙ ap (λ b. b ⊕ odd i ys) e ∙ parity-self (odd i ys))
          by_case (inr e) = inr e
