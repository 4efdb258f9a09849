-- Classes of detectors: a logical error's parts in one of the classes are a logical error of no more errors.
use Rattle.stab_search.proofs.Names.{◌≡◌, ◌≢◌, ℕ, zero, suc, ◌+◌, ◌≤◌, ◌<◌, ◌⊎◌, inl, inr, refl, sym, ◌∙◌, ap, subst, arith, Bool, true, false, List, [], ◌∷◌, ◌++◌, length, map, get_or, slice_index, drop, drop-cons, cases_eq, false≢true, length-append, if◌then◌else◌, ◌==◌, eqb-true, eqb-false, eq-eqb, ne_eqb, ◌⊕◌, parity-assoc, parity-comm, parity-false, AscendsFrom, ErrorTable, odd, row, flipped_by_rows, IsLogicalError, ForEach, class_of, AreOfClass, HaveClasses, CountsNumber, Splits}
use Rattle.stab_search.proofs.Totals.{has-odd}
use Rattle.stab_search.proofs.ListLemmas.{by-bit, all-each, each-all, has-at}

flips-append : (rows : List (List ℕ)) (xs ys : List ℕ) (i : ℕ) → flipped_by_rows rows (xs ++ ys) i ≡ flipped_by_rows rows xs i ⊕ flipped_by_rows rows ys i
flips-append rows [] ys i = refl
flips-append rows (x ∷ xs) ys i =
    ap (λ b. odd i (row rows x) ⊕ b) (flips-append rows xs ys i)
    ∙ sym (parity-assoc (odd i (row rows x)) (flipped_by_rows rows xs i) (flipped_by_rows rows ys i))

each-append : (P : ℕ → Type 0) (xs ys : List ℕ) → ForEach P xs → ForEach P ys → ForEach P (xs ++ ys)
each-append P [] ys a b = b
each-append P (x ∷ xs) ys a b = (a.0, each-append P xs ys a.1 b)

-- those of some errors that have a class by f, and the others

abbrev with_class : (ℕ → ℕ) → ℕ → List ℕ → List ℕ
with_class f k [] = []
with_class f k (r ∷ rs) = if f r == k then r ∷ with_class f k rs else with_class f k rs

abbrev without_class : (ℕ → ℕ) → ℕ → List ℕ → List ℕ
without_class f k [] = []
without_class f k (r ∷ rs) = if f r == k then without_class f k rs else r ∷ without_class f k rs

module _ (f : ℕ → ℕ) (k r : ℕ) (rs : List ℕ) where
  with-here : (f r == k) ≡ true → with_class f k (r ∷ rs) ≡ r ∷ with_class f k rs
  with-here e = ap (λ b. if b then r ∷ with_class f k rs else with_class f k rs) e

  with-there : (f r == k) ≡ false → with_class f k (r ∷ rs) ≡ with_class f k rs
  with-there e = ap (λ b. if b then r ∷ with_class f k rs else with_class f k rs) e

  without-here : (f r == k) ≡ true → without_class f k (r ∷ rs) ≡ without_class f k rs
  without-here e = ap (λ b. if b then without_class f k rs else r ∷ without_class f k rs) e

  without-there : (f r == k) ≡ false → without_class f k (r ∷ rs) ≡ r ∷ without_class f k rs
  without-there e = ap (λ b. if b then without_class f k rs else r ∷ without_class f k rs) e

with-append : (f : ℕ → ℕ) (k : ℕ) (xs ys : List ℕ) → with_class f k (xs ++ ys) ≡ with_class f k xs ++ with_class f k ys
with-append f k [] ys = refl
with-append f k (x ∷ xs) ys =
    by-bit (f x == k)
    (λ e. with-here f k x (xs ++ ys) e ∙ ap (λ zs. x ∷ zs) (with-append f k xs ys) ∙ ap (λ zs. zs ++ with_class f k ys) (sym (with-here f k x xs e)))
    (λ e. with-there f k x (xs ++ ys) e ∙ with-append f k xs ys ∙ ap (λ zs. zs ++ with_class f k ys) (sym (with-there f k x xs e)))

each-with : (f : ℕ → ℕ) (k : ℕ) (P : ℕ → Type 0) (xs : List ℕ) → ForEach P xs → ForEach (λ r. P r × (f r ≡ k)) (with_class f k xs)
each-with f k P [] a = tt
each-with f k P (x ∷ xs) a =
    by-bit (f x == k)
    (λ e. subst (ForEach (λ r. P r × (f r ≡ k))) (sym (with-here f k x xs e)) ((a.0, eqb-true (f x) k e), each-with f k P xs a.1))
    (λ e. subst (ForEach (λ r. P r × (f r ≡ k))) (sym (with-there f k x xs e)) (each-with f k P xs a.1))

each-without_class : (f : ℕ → ℕ) (k : ℕ) (P : ℕ → Type 0) (xs : List ℕ) → ForEach P xs → ForEach (λ r. P r × (f r ≢ k)) (without_class f k xs)
each-without_class f k P [] a = tt
each-without_class f k P (x ∷ xs) a =
    by-bit (f x == k)
    (λ e. subst (ForEach (λ r. P r × (f r ≢ k))) (sym (without-here f k x xs e)) (each-without_class f k P xs a.1))
    (λ e. subst (ForEach (λ r. P r × (f r ≢ k))) (sym (without-there f k x xs e)) ((a.0, eqb-false (f x) k e), each-without_class f k P xs a.1))

-- of ascending classes each is there once at most

none-with : (f : ℕ → ℕ) (k m : ℕ) (xs : List ℕ) → AscendsFrom m (map f xs) → k < m → with_class f k xs ≡ []
none-with f k m [] a lt = refl
none-with f k m (x ∷ xs) a lt =
    let le = a.0 in
    with-there f k x xs (ne_eqb (f x) k (λ same. omega arith)) ∙ none-with f k (f x + 1) xs a.1 (omega arith)

one-with : (f : ℕ → ℕ) (k m : ℕ) (xs : List ℕ) → AscendsFrom m (map f xs) → length (with_class f k xs) ≤ 1
one-with f k m [] a = omega arith
one-with f k m (x ∷ xs) a =
    by-bit (f x == k)
    (λ e.
    let here : f x ≡ k = eqb-true (f x) k e in
    let one : length (with_class f k (x ∷ xs)) ≡ suc (length (with_class f k xs)) = ap length (with-here f k x xs e) in
    let none : length (with_class f k xs) ≡ 0 = ap length (none-with f k (f x + 1) xs a.1 (omega arith)) in
    omega arith)
    (λ e.
    let same : length (with_class f k (x ∷ xs)) ≡ length (with_class f k xs) = ap length (with-there f k x xs e) in
    let later = one-with f k (f x + 1) xs a.1 in
    omega arith)

-- what errors flip is what those of a class do and the others
flips-classes : (rows : List (List ℕ)) (f : ℕ → ℕ) (k i : ℕ) (xs : List ℕ) → flipped_by_rows rows xs i ≡ flipped_by_rows rows (with_class f k xs) i ⊕ flipped_by_rows rows (without_class f k xs) i
flips-classes rows f k i [] = refl
flips-classes rows f k i (x ∷ xs) =
    by-bit (f x == k)
    (λ e.
    ap (λ b. odd i (row rows x) ⊕ b) (flips-classes rows f k i xs)
    ∙ sym (parity-assoc (odd i (row rows x)) (flipped_by_rows rows (with_class f k xs) i) (flipped_by_rows rows (without_class f k xs) i))
    ∙ ap (λ ys. flipped_by_rows rows ys i ⊕ flipped_by_rows rows (without_class f k xs) i) (sym (with-here f k x xs e))
    ∙ ap (λ ys. flipped_by_rows rows (with_class f k (x ∷ xs)) i ⊕ flipped_by_rows rows ys i) (sym (without-here f k x xs e)))
    (λ e.
    ap (λ b. odd i (row rows x) ⊕ b) (flips-classes rows f k i xs)
    ∙ cross (odd i (row rows x)) (flipped_by_rows rows (with_class f k xs) i) (flipped_by_rows rows (without_class f k xs) i)
    ∙ ap (λ ys. flipped_by_rows rows ys i ⊕ (odd i (row rows x) ⊕ flipped_by_rows rows (without_class f k xs) i)) (sym (with-there f k x xs e))
    ∙ ap (λ ys. flipped_by_rows rows (with_class f k (x ∷ xs)) i ⊕ flipped_by_rows rows ys i) (sym (without-there f k x xs e)))
  where
    cross : (a b c : Bool) → a ⊕ (b ⊕ c) ≡ b ⊕ (a ⊕ c)
    cross a b c = sym (parity-assoc a b c) ∙ ap (λ t. t ⊕ c) (parity-comm a b) ∙ parity-assoc b a c

-- errors of which none flips a number do not flip it together
flips-none : (rows : List (List ℕ)) (i : ℕ) (xs : List ℕ) → ForEach (λ r. odd i (row rows r) ≡ false) xs → flipped_by_rows rows xs i ≡ false
flips-none rows i [] a = refl
flips-none rows i (x ∷ xs) a = ap (λ b. b ⊕ flipped_by_rows rows xs i) a.0 ∙ flips-none rows i xs a.1

-- those of another class, after those of one were left out

with-without : (f : ℕ → ℕ) (k j : ℕ) (xs : List ℕ) → j ≢ k → with_class f j (without_class f k xs) ≡ with_class f j xs
with-without f k j [] other = refl
with-without f k j (x ∷ xs) other =
    by-bit (f x == k)
    (λ e.
    ap (with_class f j) (without-here f k x xs e) ∙ with-without f k j xs other
    ∙ sym (with-there f j x xs (ne_eqb (f x) j (λ same. other (sym same ∙ eqb-true (f x) k e)))))
    (λ e.
    ap (with_class f j) (without-there f k x xs e)
    ∙ by-bit (f x == j)
    (λ here. with-here f j x (without_class f k xs) here ∙ ap (λ ys. x ∷ ys) (with-without f k j xs other) ∙ sym (with-here f j x xs here))
    (λ there. with-there f j x (without_class f k xs) there ∙ with-without f k j xs other ∙ sym (with-there f j x xs there)))

with-without_same : (f : ℕ → ℕ) (k : ℕ) (xs : List ℕ) → with_class f k (without_class f k xs) ≡ []
with-without_same f k [] = refl
with-without_same f k (x ∷ xs) =
    by-bit (f x == k)
    (λ e. ap (with_class f k) (without-here f k x xs e) ∙ with-without_same f k xs)
    (λ e. ap (with_class f k) (without-there f k x xs e) ∙ with-there f k x (without_class f k xs) e ∙ with-without_same f k xs)

length-without_class : (f : ℕ → ℕ) (k : ℕ) (xs : List ℕ) → length (without_class f k xs) ≤ length xs
length-without_class f k [] = omega arith
length-without_class f k (x ∷ xs) =
    by-bit (f x == k)
    (λ e. let same = ap length (without-here f k x xs e) in let later = length-without_class f k xs in omega arith)
    (λ e. let same = ap length (without-there f k x xs e) in let later = length-without_class f k xs in omega arith)

-- what errors flip together, those of some class flip
some-class : (rows : List (List ℕ)) (f : ℕ → ℕ) (i n : ℕ) (xs : List ℕ) → length xs ≤ n → flipped_by_rows rows xs i ≡ true → (k : ℕ) × (flipped_by_rows rows (with_class f k xs) i ≡ true)
some-class rows f i n [] le e = absurd (false≢true e)
some-class rows f i zero (x ∷ xs) le e = absurd (omega arith)
some-class rows f i (suc n) (x ∷ xs) le e =
    by-bit (flipped_by_rows rows (with_class f (f x) (x ∷ xs)) i)
    (λ here. (f x, here))
    (λ not.
    let k = f x in
    let here : (f x == f x) ≡ true = eq-eqb (f x) (f x) refl in
    let shorter = length-without_class f k xs in
    let rest : flipped_by_rows rows (without_class f k (x ∷ xs)) i ≡ true =
    sym (ap (λ b. b ⊕ flipped_by_rows rows (without_class f k (x ∷ xs)) i) not) ∙ sym (flips-classes rows f k i (x ∷ xs)) ∙ e in
    let later = some-class rows f i n (without_class f k xs) (omega arith) (ap (λ ys. flipped_by_rows rows ys i) (sym (without-here f k x xs here)) ∙ rest) in
    found k later.0 later.1 here)
  where
    found : (k j : ℕ) → flipped_by_rows rows (with_class f j (without_class f k xs)) i ≡ true → (f x == k) ≡ true → (m : ℕ) × (flipped_by_rows rows (with_class f m (x ∷ xs)) i ≡ true)
    found k j is here = by_position (cases_eq j k)
      where
        by_position : (j ≡ k) ⊎ (j ≡ k → ⊥) → (m : ℕ) × (flipped_by_rows rows (with_class f m (x ∷ xs)) i ≡ true)
        by_position (inl same) =
            absurd
            (false≢true
            (sym (ap (λ ys. flipped_by_rows rows ys i) (ap (λ m. with_class f m (without_class f k xs)) same ∙ with-without_same f k xs)) ∙ is))
        by_position (inr other) =
            (j, ap (λ ys. flipped_by_rows rows ys i) (with-there f j x xs (ne_eqb (f x) j (λ same. other (sym same ∙ eqb-true (f x) k here))) ∙ sym (with-without f k j xs other)) ∙ is)

-- The law of classes.

module _ (t retained : ErrorTable) (classes : List ℕ) (detectors : retained.detectors ≡ t.detectors) (have : HaveClasses retained classes)
    (split : (r : ℕ) → r < length t.rows → Splits retained classes (row t.rows r)) where
  abbrev class : ℕ → ℕ
  class r = class_of classes (row retained.rows r)

  -- the parts of all errors
  abbrev all_parts : (xs : List ℕ) → ForEach (λ r. r < length t.rows) xs → List ℕ
  all_parts [] a = []
  all_parts (x ∷ xs) a = (split x a.0).0 ++ all_parts xs a.1

  parts-inside : (xs : List ℕ) (a : ForEach (λ r. r < length t.rows) xs) → ForEach (λ r. r < length retained.rows) (all_parts xs a)
  parts-inside [] a = tt
  parts-inside (x ∷ xs) a = each-append (λ r. r < length retained.rows) (split x a.0).0 (all_parts xs a.1) (split x a.0).1.inside (parts-inside xs a.1)

  parts-flip : (xs : List ℕ) (a : ForEach (λ r. r < length t.rows) xs) (i : ℕ) → CountsNumber classes retained.detectors i → flipped_by_rows retained.rows (all_parts xs a) i ≡ flipped_by_rows t.rows xs i
  parts-flip [] a i counts = refl
  parts-flip (x ∷ xs) a i counts =
      flips-append retained.rows (split x a.0).0 (all_parts xs a.1) i
      ∙ ap (λ b. b ⊕ flipped_by_rows retained.rows (all_parts xs a.1) i) ((split x a.0).1.same i counts)
      ∙ ap (λ b. odd i (row t.rows x) ⊕ b) (parts-flip xs a.1 i counts)

  -- no more of one class than errors
  parts-few : (k : ℕ) (xs : List ℕ) (a : ForEach (λ r. r < length t.rows) xs) → length (with_class class k (all_parts xs a)) ≤ length xs
  parts-few k [] a = omega arith
  parts-few k (x ∷ xs) a =
      let both : length (with_class class k (all_parts (x ∷ xs) a)) ≡ length (with_class class k (split x a.0).0 ++ with_class class k (all_parts xs a.1)) =
      ap length (with-append class k (split x a.0).0 (all_parts xs a.1)) in
      let sum = length-append (with_class class k (split x a.0).0) (with_class class k (all_parts xs a.1)) in
      let one = one-with class k 0 (split x a.0).0 (split x a.0).1.distinct in
      let later = parts-few k xs a.1 in
      omega arith

  -- an error flips no detector of another class, and none that is ignored
  distinct : (d r : ℕ) → d < retained.detectors → r < length retained.rows → class r ≢ slice_index classes d → odd d (row retained.rows r) ≡ false
  distinct d r lt inside other = by-bit (odd d (row retained.rows r)) (λ is. absurd (other (sym (have r inside d lt is).0))) (λ not. not)

  ignored : (d r : ℕ) → d < retained.detectors → r < length retained.rows → slice_index classes d ≡ 0 → odd d (row retained.rows r) ≡ false
  ignored d r lt inside none =
      by-bit (odd d (row retained.rows r)) (λ is. let here = have r inside d lt is in absurd (here.1 (sym here.0 ∙ none))) (λ not. not)

  each-none : (P : ℕ → Type 0) (d : ℕ) (xs : List ℕ) → ((r : ℕ) → P r → odd d (row retained.rows r) ≡ false) → ForEach P xs → ForEach (λ r. odd d (row retained.rows r) ≡ false) xs
  each-none P d [] all a = tt
  each-none P d (x ∷ xs) all a = (all x a.0, each-none P d xs all a.1)

  module _ (errors : List ℕ) (logical : IsLogicalError t errors) (a : ForEach (λ r. r < length t.rows) errors) where
    abbrev parts : List ℕ
    parts = all_parts errors a

    -- the parts of a class flip no detector
    class-undetected : (k d : ℕ) → d < retained.detectors → flipped_by_rows retained.rows (with_class class k parts) d ≡ false
    class-undetected k d lt = by_class (cases_eq (slice_index classes d) 0) (cases_eq k (slice_index classes d))
      where
        by_class : (slice_index classes d ≡ 0) ⊎ (slice_index classes d ≡ 0 → ⊥) → (k ≡ slice_index classes d) ⊎ (k ≡ slice_index classes d → ⊥)
            → flipped_by_rows retained.rows (with_class class k parts) d ≡ false
        by_class (inl none) here =
            flips-none retained.rows d (with_class class k parts)
            (each-none (λ r. (r < length retained.rows) × (class r ≡ k)) d (with_class class k parts) (λ r p. ignored d r lt p.0 none)
            (each-with class k (λ r. r < length retained.rows) parts (parts-inside errors a)))
        by_class (inr counts) (inr other) =
            flips-none retained.rows d (with_class class k parts)
            (each-none (λ r. (r < length retained.rows) × (class r ≡ k)) d (with_class class k parts) (λ r p. distinct d r lt p.0 (λ same. other (sym p.1 ∙ same)))
            (each-with class k (λ r. r < length retained.rows) parts (parts-inside errors a)))
        by_class (inr counts) (inl same) =
            let others : flipped_by_rows retained.rows (without_class class k parts) d ≡ false =
            flips-none retained.rows d (without_class class k parts)
            (each-none (λ r. (r < length retained.rows) × (class r ≢ k)) d (without_class class k parts) (λ r p. distinct d r lt p.0 (λ is. p.1 (is ∙ sym same)))
            (each-without_class class k (λ r. r < length retained.rows) parts (parts-inside errors a))) in
            sym (parity-false (flipped_by_rows retained.rows (with_class class k parts) d))
            ∙ ap (λ b. flipped_by_rows retained.rows (with_class class k parts) d ⊕ b) (sym others)
            ∙ sym (flips-classes retained.rows class k d parts)
            ∙ parts-flip errors a d (inr counts)
            ∙ logical.undetected d (subst (λ n. d < n) detectors lt)

    class-logical : (others : List ℕ) × (IsLogicalError retained others × (length others ≤ length errors))
    class-logical =
        let o = logical.observed.0 in
        let le : retained.detectors ≤ o = subst (λ n. n ≤ o) (sym detectors) logical.observed.1 in
        let one = some-class retained.rows class o (length parts) parts (omega arith) (parts-flip errors a o (inl le) ∙ logical.observed.2) in
        let k = one.0 in (
          with_class class k parts,
          (
            record {
              inside = all-each (λ r. r < length retained.rows) (with_class class k parts)
                  (each-first class k parts (parts-inside errors a));
              undetected = λ d lt. class-undetected k d lt;
              observed = (o, le, one.1);
            },
            parts-few k errors a,
          ),
        )
      where
        each-first : (f : ℕ → ℕ) (k : ℕ) (xs : List ℕ) → ForEach (λ r. r < length retained.rows) xs → ForEach (λ r. r < length retained.rows) (with_class f k xs)
        each-first f k [] b = tt
        each-first f k (x ∷ xs) b =
            by-bit (f x == k)
            (λ e. subst (ForEach (λ r. r < length retained.rows)) (sym (with-here f k x xs e)) (b.0, each-first f k xs b.1))
            (λ e. subst (ForEach (λ r. r < length retained.rows)) (sym (with-there f k x xs e)) (each-first f k xs b.1))

  -- errors of one class each are enough
  pub enough-classes : (errors : List ℕ) → IsLogicalError t errors → (others : List ℕ) × (IsLogicalError retained others × (length others ≤ length errors))
  enough-classes errors logical = class-logical errors logical (each-all (λ r. r < length t.rows) errors logical.inside)

-- What a check goes over.

-- each number of a list has a class
pub of-class : (classes : List ℕ) (detectors : ℕ) (is : List ℕ) (k : ℕ)
    → ((j : ℕ) → j < length is → get_or is j 0 < detectors → (slice_index classes (get_or is j 0) ≡ k) × (k ≢ 0)) → AreOfClass classes detectors is k
of-class classes detectors is k each d lt flipped_by_rows =
    let position = has-at d is (has-odd d is flipped_by_rows) in
    subst (λ e. (slice_index classes e ≡ k) × (k ≢ 0)) position.1.1 (each position.0 position.1.0 (subst (λ e. e < detectors) (sym position.1.1) lt))

-- each number of a list is ignored
pub none-counting : (classes : List ℕ) (detectors : ℕ) (is : List ℕ)
    → ((j : ℕ) → j < length is → (get_or is j 0 < detectors) × (slice_index classes (get_or is j 0) ≡ 0)) → (i : ℕ) → CountsNumber classes detectors i → odd i is ≡ false
none-counting classes detectors is each i counts = by-bit (odd i is) (λ flipped_by_rows. absurd (both flipped_by_rows counts)) (λ not. not)
  where
    both : odd i is ≡ true → CountsNumber classes detectors i → ⊥
    both flipped_by_rows counts =
        let position = has-at i is (has-odd i is flipped_by_rows) in
        let here = subst (λ e. (e < detectors) × (slice_index classes e ≡ 0)) position.1.1 (each position.0 position.1.0) in
        by_position here counts
      where
        by_position : (i < detectors) × (slice_index classes i ≡ 0) → (detectors ≤ i) ⊎ (slice_index classes i ≢ 0) → ⊥
        by_position here (inl le) = let lt = here.0 in omega arith
        by_position here (inr not) = not here.1

-- classes of errors that go on ascending
pub distinct-next : (f : ℕ → ℕ) (xs : List ℕ) (k from : ℕ) → k < length xs → from ≤ f (get_or xs k 0) → AscendsFrom (f (get_or xs k 0) + 1) (map f (drop (k + 1) xs))
    → AscendsFrom from (map f (drop k xs))
distinct-next f xs k from lt le after =
    let next : suc k ≡ k + 1 = omega arith in
    subst (λ ys. AscendsFrom from (map f ys)) (sym (drop-cons xs k 0 lt ∙ ap (λ n. get_or xs k 0 ∷ drop n xs) next)) (le, after)
