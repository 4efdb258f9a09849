-- Steps: an error of each shortest logical error can be one that no step moves down, since the others can all be moved.
use Rattle.stab_search.proofs.Names.{◌≡◌, ◌≢◌, ℕ, zero, suc, ◌+◌, ◌≤◌, ◌<◌, ◌⊎◌, inl, inr, refl, sym, ◌∙◌, ap, ap₂, subst, arith, Bool, true, false, List, [], ◌∷◌, length, ◌&&◌, ◌==◌, cases_eq, cases_lt, false≢true, eq-eqb, ne_eqb, get_or, slice_index, ◌⊕◌, parity-mid, parity-false, ErrorTable, odd, row, flipped_by_rows, IsLogicalError, ForEach, lowered, AreLower, AreMoved, MoveDown, HasBefore, BeginsBefore, Vec, ArePairs}
use Rattle.stab_search.proofs.ListLemmas.{each-all, all-each, has-here, has-there}
use Rattle.stab_search.proofs.ParityLemmas.{and-false, and-true, and-sum}

-- a list has a number before another, or none

pub before-or-not : (n : ℕ) (xs : List ℕ) → HasBefore n xs ⊎ ForEach (λ r. n ≤ r) xs
before-or-not n [] = inr tt
before-or-not n (x ∷ xs) = by_first (cases_lt x n) (before-or-not n xs)
  where
    by_first : (x < n) ⊎ (n ≤ x) → HasBefore n xs ⊎ ForEach (λ r. n ≤ r) xs → HasBefore n (x ∷ xs) ⊎ ForEach (λ r. n ≤ r) (x ∷ xs)
    by_first (inl lt) later = inl (x, (lt, has-here x xs))
    by_first (inr le) (inl found) = inl (found.0, (found.1.0, has-there found.0 x xs found.1.1))
    by_first (inr le) (inr none) = inr (le, none)

-- a logical error has an error, which is one of the table

pub some-error : (t : ErrorTable) (xs : List ℕ) → IsLogicalError t xs → HasBefore (length t.rows) xs
some-error t [] e = absurd (false≢true e.observed.2)
some-error t (x ∷ xs) e = (x, ((each-all (λ r. r < length t.rows) (x ∷ xs) e.inside).0, has-here x xs))

pub all-begin : (t : ErrorTable) → BeginsBefore t (length t.rows)
all-begin t = record { begins = λ errors e. (errors, (e, (omega arith, some-error t errors e))) }

-- a number of a list, and the number past its end

at-inside : (xs : List ℕ) (i d : ℕ) → i < length xs → get_or xs i d ≡ get_or xs i 0
at-inside [] i d lt = absurd (omega arith)
at-inside (x ∷ xs) zero d lt = refl
at-inside (x ∷ xs) (suc i) d lt = at-inside xs i d (omega arith)

at-outside : (xs : List ℕ) (i d : ℕ) → length xs ≤ i → get_or xs i d ≡ d
at-outside [] i d le = refl
at-outside (x ∷ xs) zero d le = absurd (omega arith)
at-outside (x ∷ xs) (suc i) d le = at-outside xs i d (omega arith)

-- what a row flips that is another moved

module _ (n : ℕ) (lower : List ℕ) (are : AreLower n lower) where
  lowered-observable : (i : ℕ) → n ≤ i → lowered lower i ≡ i
  lowered-observable i le = at-outside lower i i (let few = are.within in omega arith)

  lowered-detector : (d : ℕ) → d < n → lowered lower d < n
  lowered-detector d lt =
      elim (cases_lt d (length lower)) [
        | inl here ↦ subst (λ e. e < n) (sym (at-inside lower d d here)) (are.inside d here)
        | inr past ↦ subst (λ e. e < n) (sym (at-outside lower d d past)) lt
      ]

  -- whether an odd number of the detectors before k that flip move to detector i

  abbrev pull : ℕ → ℕ → (ℕ → Bool) → Bool
  pull zero i f = false
  pull (suc k) i f = ((lowered lower k == i) && f k) ⊕ pull k i f

  pull-none : (k i : ℕ) (f : ℕ → Bool) → ((d : ℕ) → d < k → f d ≡ false) → pull k i f ≡ false
  pull-none zero i f none = refl
  pull-none (suc k) i f none =
      ap (λ b. ((lowered lower k == i) && b) ⊕ pull k i f) (none k (omega arith)) ∙ ap (λ b. b ⊕ pull k i f) (and-false (lowered lower k == i))
      ∙ pull-none k i f (λ d lt. none d (omega arith))

  pull-sum : (k i : ℕ) (f g : ℕ → Bool) → pull k i (λ d. f d ⊕ g d) ≡ pull k i f ⊕ pull k i g
  pull-sum zero i f g = refl
  pull-sum (suc k) i f g =
      let at : Bool = lowered lower k == i in
      ap₂ (λ a b. a ⊕ b) (sym (and-sum at (f k) (g k))) (pull-sum k i f g) ∙ parity-mid (at && f k) (at && g k) (pull k i f) (pull k i g)

  pull-past : (k i x : ℕ) → k ≤ x → pull k i (λ d. x == d) ≡ false
  pull-past k i x le = pull-none k i (λ d. x == d) (λ d lt. ne_eqb x d (λ same. omega (arith, le, lt, same)))

  pull-one : (k i x : ℕ) → x < k → pull k i (λ d. x == d) ≡ (lowered lower x == i)
  pull-one zero i x lt = absurd (omega arith)
  pull-one (suc k) i x lt =
      let at : Bool = lowered lower k == i in
      elim (cases_eq x k) [
        | inl same ↦
            ap₂ (λ a b. (at && a) ⊕ b) (eq-eqb x k same) (pull-past k i x (omega (arith, same)))
            ∙ parity-false (at && true) ∙ and-true at ∙ ap (λ y. lowered lower y == i) (sym same)
        | inr other ↦
            ap₂ (λ a b. (at && a) ⊕ b) (ne_eqb x k other) (pull-one k i x (omega (arith, lt, other))) ∙ ap (λ a. a ⊕ (lowered lower x == i)) (and-false at)
      ]

  one-detector : (i x : ℕ) → i < n → (lowered lower x == i) ≡ pull n i (λ d. x == d)
  one-detector i x lt =
      elim (cases_lt x n) [
        | inl inside ↦ sym (pull-one n i x inside)
        | inr past ↦ ne_eqb (lowered lower x) i (λ same. let own = lowered-observable x past in omega (arith, lt, past, same, own)) ∙ sym (pull-past n i x past)
      ]

  one-observable : (o x : ℕ) → n ≤ o → (lowered lower x == o) ≡ (x == o)
  one-observable o x le =
      elim (cases_lt x n) [
        | inl inside ↦
            ne_eqb (lowered lower x) o (λ same. let below = lowered-detector x inside in omega (arith, le, same, below))
            ∙ sym (ne_eqb x o (λ same. omega (arith, le, inside, same)))
        | inr past ↦ ap (λ y. y == o) (lowered-observable x past)
      ]

  first-moved : (x y : ℕ) (xs ys : List ℕ) → AreMoved lower (x ∷ xs) (y ∷ ys) → x ≡ lowered lower y
  first-moved x y xs ys m = m.each 0 (omega arith)

  others-moved : (x y : ℕ) (xs ys : List ℕ) → AreMoved lower (x ∷ xs) (y ∷ ys) → AreMoved lower xs ys
  others-moved x y xs ys m = record { count = let same = m.count in omega arith; each = λ k lt. m.each (suc k) (omega (arith, lt)) }

  odd-observable : (xs ys : List ℕ) (o : ℕ) → n ≤ o → AreMoved lower xs ys → odd o xs ≡ odd o ys
  odd-observable [] [] o le m = refl
  odd-observable [] (y ∷ ys) o le m = absurd (let same = m.count in omega arith)
  odd-observable (x ∷ xs) [] o le m = absurd (let same = m.count in omega arith)
  odd-observable (x ∷ xs) (y ∷ ys) o le m =
      ap₂ (λ a b. a ⊕ b) (ap (λ k. k == o) (first-moved x y xs ys m) ∙ one-observable o y le) (odd-observable xs ys o le (others-moved x y xs ys m))

  odd-detector : (xs ys : List ℕ) (i : ℕ) → i < n → AreMoved lower xs ys → odd i xs ≡ pull n i (λ d. odd d ys)
  odd-detector [] [] i lt m = sym (pull-none n i (λ d. false) (λ d below. refl))
  odd-detector [] (y ∷ ys) i lt m = absurd (let same = m.count in omega arith)
  odd-detector (x ∷ xs) [] i lt m = absurd (let same = m.count in omega arith)
  odd-detector (x ∷ xs) (y ∷ ys) i lt m =
      ap₂ (λ a b. a ⊕ b) (ap (λ k. k == i) (first-moved x y xs ys m) ∙ one-detector i y lt) (odd-detector xs ys i lt (others-moved x y xs ys m))
      ∙ sym (pull-sum n i (λ d. y == d) (λ d. odd d ys))

-- errors of which each moves down, moved

abbrev index_sum : List ℕ → ℕ
index_sum [] = 0
index_sum (x ∷ xs) = x + index_sum xs

module _ (t : ErrorTable) (from : ℕ) (lower : List ℕ) (are : AreLower t.detectors lower) (down : MoveDown t from lower) where
  -- each from `from` on, and in the table
  abbrev Late : List ℕ → Type 0
  Late xs = ForEach (λ r. from ≤ r) xs × ForEach (λ r. r < length t.rows) xs

  abbrev moved : (xs : List ℕ) → Late xs → List ℕ
  moved [] a = []
  moved (x ∷ xs) a = (down x a.0.0 a.1.0).0 ∷ moved xs (a.0.1, a.1.1)

  moved-inside : (xs : List ℕ) (a : Late xs) → ForEach (λ r. r < length t.rows) (moved xs a)
  moved-inside [] a = tt
  moved-inside (x ∷ xs) a = (let before = (down x a.0.0 a.1.0).1.0 in let inside = a.1.0 in omega arith, moved-inside xs (a.0.1, a.1.1))

  moved-length : (xs : List ℕ) (a : Late xs) → length (moved xs a) ≡ length xs
  moved-length [] a = refl
  moved-length (x ∷ xs) a = ap suc (moved-length xs (a.0.1, a.1.1))

  moved-sum : (xs : List ℕ) (a : Late xs) → index_sum (moved xs a) + length xs ≤ index_sum xs
  moved-sum [] a = omega arith
  moved-sum (x ∷ xs) a = let before = (down x a.0.0 a.1.0).1.0 in let later = moved-sum xs (a.0.1, a.1.1) in omega arith

  moved-observable : (xs : List ℕ) (a : Late xs) (o : ℕ) → t.detectors ≤ o → flipped_by_rows t.rows (moved xs a) o ≡ flipped_by_rows t.rows xs o
  moved-observable [] a o le = refl
  moved-observable (x ∷ xs) a o le =
      let here = down x a.0.0 a.1.0 in
      ap₂ (λ b c. b ⊕ c) (odd-observable t.detectors lower are (row t.rows here.0) (row t.rows x) o le here.1.1) (moved-observable xs (a.0.1, a.1.1) o le)

  moved-detector : (xs : List ℕ) (a : Late xs) (i : ℕ) → i < t.detectors → flipped_by_rows t.rows (moved xs a) i ≡ pull t.detectors lower are t.detectors i (flipped_by_rows t.rows xs)
  moved-detector [] a i lt = sym (pull-none t.detectors lower are t.detectors i (λ d. false) (λ d below. refl))
  moved-detector (x ∷ xs) a i lt =
      let here = down x a.0.0 a.1.0 in
      ap₂ (λ b c. b ⊕ c) (odd-detector t.detectors lower are (row t.rows here.0) (row t.rows x) i lt here.1.1) (moved-detector xs (a.0.1, a.1.1) i lt)
      ∙ sym (pull-sum t.detectors lower are t.detectors i (λ d. odd d (row t.rows x)) (flipped_by_rows t.rows xs))

  moved-logical : (xs : List ℕ) (a : Late xs) → IsLogicalError t xs → IsLogicalError t (moved xs a)
  moved-logical xs a e = record {
    inside = all-each (λ r. r < length t.rows) (moved xs a) (moved-inside xs a);
    undetected = λ d lt. moved-detector xs a d lt ∙ pull-none t.detectors lower are t.detectors d (flipped_by_rows t.rows xs) e.undetected;
    observed = (e.observed.0, e.observed.1, moved-observable xs a e.observed.0 e.observed.1 ∙ e.observed.2);
  }

  some : (xs : List ℕ) → IsLogicalError t xs → 0 < length xs
  some [] e = absurd (false≢true e.observed.2)
  some (x ∷ xs) e = omega arith

  abbrev Begins : List ℕ → Type 0
  Begins errors = (others : List ℕ) × (IsLogicalError t others × ((length others ≤ length errors) × HasBefore from others))

  late : (xs : List ℕ) → ForEach (λ r. from ≤ r) xs → IsLogicalError t xs → Late xs
  late xs each e = (each, each-all (λ r. r < length t.rows) xs e.inside)

  begins-within : (most : ℕ) (xs : List ℕ) → index_sum xs ≤ most → IsLogicalError t xs → Begins xs
  begins-within zero xs le e =
      elim (before-or-not from xs) [
        | inl first ↦ (xs, (e, (omega arith, first)))
        | inr each ↦ let less = moved-sum xs (late xs each e) in let one = some xs e in absurd (omega arith)
      ]
  begins-within (suc most) xs le e =
      elim (before-or-not from xs) [
        | inl first ↦ (xs, (e, (omega arith, first)))
        | inr each ↦
            let a = late xs each e in
            let less = moved-sum xs a in
            let one = some xs e in
            let count = moved-length xs a in
            let found = begins-within most (moved xs a) (omega arith) (moved-logical xs a e) in
            let fewer = found.1.1.0 in
            (found.0, (found.1.0, (omega arith, found.1.1.1)))
      ]

  pub moving-begins : BeginsBefore t from
  moving-begins = record { begins = λ errors e. begins-within (index_sum errors) errors (omega arith) e }

-- no pairs are pairs
pub no_pairs : (rows : List (List ℕ)) (firsts : ℕ) (pairs : List (Vec ℕ)) → pairs ≡ [] → ArePairs rows firsts pairs
no_pairs rows firsts [] is = record { differ = λ a b e. absurd (false≢true e); left_out = λ a b e. absurd (false≢true e) }
no_pairs rows firsts (p ∷ ps) is = absurd (let none = ap length is in omega arith)
