-- Parities one step backwards: how the region of each before a step, and whether it is preserved, follow from those after it.
use Rattle.stab_regions.proofs.Names.{◌≡◌, ℕ, suc, ◌+◌, ◌-◌, ◌<◌, ◌≤◌, ◌⊎◌, inl, inr, refl, sym, ◌∙◌, ap, subst, arith, Bool, true, false, not, ◌&&◌, List, [], ◌∷◌, append-nil, set, le-ltb, lt-ltb, ne_eqb, if◌then◌else◌, nat_lt, ◌==◌, replicate, cases_lt, cases_eq, eq-eqb, set-get_or, and-false, Letter, I, plain, Signed, identity, single, anticommute, strings_anticommute-blank_right, signed_path, Gate, PairGate, letter_at, letter_image, inverse, put_letter, put_letters, pair_letters, back, back_pair, Step, one, two, controlled, collapse, product, detector, observable, is_detector, string_of, flip_of, Region, region_of, look_where, before_measured, region_before, region_through, with_looks, keeps_region, keep_region, asks_nothing, asks_observable, named_by_detector, steps_before_detector, named_by, region_of_detector, detectors_before, parity_region, parity_preserved, asked_of}
use Rattle.stab_regions.proofs.FactorLemmas.{blank-at}
use Rattle.stab_regions.proofs.DetectorLemmas.{count-other, before-other, named-other}
use Rattle.std.proofs.lemmas.Bool.{cond-true, cond-false}

-- a region that asks for nothing stays so

pub none-commutes : (n : ℕ) (m : Signed) → anticommute m (identity n) ≡ false
none-commutes n m = strings_anticommute-blank_right n m.letters

none-image : (g : Gate) (l : Letter) → l ≡ I → letter_image (inverse g) l ≡ record { negative = false; letter = I }
none-image g l e = grind arith

none-pair : (g : PairGate) (l m : Letter) → l ≡ I → m ≡ I → pair_letters g l m ≡ plain (I ∷ I ∷ [])
none-pair g l m el em = λ i. pair_letters g (el i) (em i)

put-none : (n q : ℕ) → set (replicate n I) q I ≡ replicate n I
put-none n q = ap (set (replicate n I) q) (sym (blank-at n q)) ∙ set-get_or (replicate n I) q I

none-back : (n q : ℕ) (g : Gate) → back g q (identity n) ≡ identity n
none-back n q g =
    ap (λ w. put_letter q w (identity n)) (none-image g (letter_at (replicate n I) q) (blank-at n q))
    ∙ signed_path _ _ refl (put-none n q)

none-back_pair : (n a b : ℕ) (g : PairGate) → back_pair g a b (identity n) ≡ identity n
none-back_pair n a b g =
    ap (λ w. put_letters a b w (identity n)) (none-pair g (letter_at (replicate n I) a) (letter_at (replicate n I) b) (blank-at n a) (blank-at n b))
    ∙ signed_path _ _ refl (ap (λ ls. set ls b I) (put-none n a) ∙ put-none n b)

-- a measurement of what is measured to no account
none-measured : (n : ℕ) (m : Signed) (recorded inverted corrected : Bool) → corrected ≡ false → before_measured m recorded inverted corrected (region_of n []) ≡ region_of n []
none-measured n m true inverted corrected e = ap (λ c. before_measured m true inverted c (region_of n [])) e
none-measured n m false inverted corrected e = ap (λ c. before_measured m false inverted c (region_of n [])) e

pub none-before : (n : ℕ) (x : Step) → region_before n x (region_of n []) ≡ region_of n []
none-before n (one g q) = ap (λ s. record { string = s; looks = [] }) (none-back n q g)
none-before n (two g a b) = ap (λ s. record { string = s; looks = [] }) (none-back_pair n a b g)
none-before n (controlled l k q) = ap (λ b. record { string = identity n; looks = look_where b k [] }) (none-commutes n (single n q l))
none-before n (collapse l q recorded inverted resets) =
    none-measured n (single n q l) recorded inverted (resets && anticommute (single n q (flip_of l)) (identity n))
    (ap (λ b. resets && b) (none-commutes n (single n q (flip_of l))) ∙ and-false resets)
none-before n (product factors inverted) = none-measured n (string_of n factors) true inverted false refl
none-before n (detector ks) = refl
none-before n (observable j ks) = refl

none-preserved : (n : ℕ) (x : Step) → keeps_region n x (region_of n []) ≡ true
none-preserved n (one g q) = refl
none-preserved n (two g a b) = refl
none-preserved n (controlled l k q) = refl
none-preserved n (collapse l q recorded inverted resets) = ap not (none-commutes n (single n q l))
none-preserved n (product factors inverted) = ap not (none-commutes n (string_of n factors))
none-preserved n (detector ks) = refl
none-preserved n (observable j ks) = refl

-- parities: observables, detectors in front, and detectors among the last steps

module _ (n D i : ℕ) (back : List Step) where
  pub region-observable : D ≤ i → parity_region n D i back ≡ region_through n (asks_observable (i - D)) back (region_of n [])
  region-observable le = cond-false (nat_lt i D) _ _ (le-ltb i D le)

  pub retained-observable : D ≤ i → parity_preserved n D i back ≡ keep_region n (asks_observable (i - D)) back (region_of n [])
  retained-observable le = cond-false (nat_lt i D) _ _ (le-ltb i D le)

  pub region-front : i < D → i < detectors_before D back → parity_region n D i back ≡ region_of n []
  region-front lt before = cond-true (nat_lt i D) _ _ (lt-ltb i D lt) ∙ cond-true (nat_lt i (detectors_before D back)) _ _ (lt-ltb i (detectors_before D back) before)

  preserved-front : i < D → i < detectors_before D back → parity_preserved n D i back ≡ true
  preserved-front lt before = cond-true (nat_lt i D) _ _ (lt-ltb i D lt) ∙ cond-true (nat_lt i (detectors_before D back)) _ _ (lt-ltb i (detectors_before D back) before)

  following : (d : ℕ) → detectors_before D back + d ≡ i → detectors_before D back ≤ i
  following d e = omega (arith, e)

  number : (d : ℕ) → detectors_before D back + d ≡ i → i - detectors_before D back ≡ d
  number d e = omega (arith, e)

  region-among : (d : ℕ) → i < D → detectors_before D back + d ≡ i → parity_region n D i back ≡ region_of_detector n d back
  region-among d lt e =
      (λ t. if lt-ltb i D lt t then (if le-ltb i (detectors_before D back) (following d e) t then region_of n [] else region_of_detector n (i - detectors_before D back) back)
      else region_through n (asks_observable (i - D)) back (region_of n []))
      ∙ ap (λ k. region_of_detector n k back) (number d e)

  retained-among : (d : ℕ) → i < D → detectors_before D back + d ≡ i
      → parity_preserved n D i back ≡ keep_region n asks_nothing (steps_before_detector d back) (region_of n (named_by d back))
  retained-among d lt e =
      (λ t. if lt-ltb i D lt t then (if le-ltb i (detectors_before D back) (following d e) t then true
      else keep_region n asks_nothing (steps_before_detector (i - detectors_before D back) back) (region_of n (named_by (i - detectors_before D back) back)))
      else keep_region n (asks_observable (i - D)) back (region_of n []))
      ∙ ap (λ k. keep_region n asks_nothing (steps_before_detector k back) (region_of n (named_by k back))) (number d e)

-- what a step asks for of each

pub asked-observable : (D before i : ℕ) (x : Step) → D ≤ i → asked_of D before i x ≡ asks_observable (i - D) x
asked-observable D before i x le = ap (λ b. if b then (if is_detector x && (i + 1 == before) then named_by_detector x else []) else asks_observable (i - D) x) (le-ltb i D le)

pub asked-detector : (D before i : ℕ) (x : Step) (here : Bool) → i < D → (is_detector x && (i + 1 == before)) ≡ here → asked_of D before i x ≡ (if here then named_by_detector x else [])
asked-detector D before i x here lt e =
    λ t. if lt-ltb i D lt t then (if e t then named_by_detector x else []) else asks_observable (i - D) x

pub asked-other : (D before i : ℕ) (x : Step) → i < D → is_detector x ≡ false → asked_of D before i x ≡ []
asked-other D before i x lt e = asked-detector D before i x false lt (ap (λ b. b && (i + 1 == before)) e)

-- the region of a parity before a step, and whether it is preserved, by what they are after it
pub record IsNext (n D i : ℕ) (x : Step) (back : List Step) : Type 0 where
  pub region : parity_region n D i (x ∷ back) ≡ with_looks (asked_of D (detectors_before D back) i x) (region_before n x (parity_region n D i back))
  pub preserved : parity_preserved n D i (x ∷ back) ≡ (keeps_region n x (parity_region n D i back) && parity_preserved n D i back)

-- by what each of them is
next-by : (n D i : ℕ) (x : Step) (back : List Step) (looks : List ℕ) (old new : Region) (was is : Bool)
    → parity_region n D i back ≡ old → parity_preserved n D i back ≡ was → parity_region n D i (x ∷ back) ≡ new → parity_preserved n D i (x ∷ back) ≡ is
    → asked_of D (detectors_before D back) i x ≡ looks → new ≡ with_looks looks (region_before n x old) → is ≡ (keeps_region n x old && was) → IsNext n D i x back
next-by n D i x back looks old new was is region_old stored_old region_new stored_new asked r k = record {
  region = region_new ∙ r ∙ (λ t. with_looks (sym asked t) (region_before n x (sym region_old t)));
  preserved = stored_new ∙ k ∙ (λ t. keeps_region n x (sym region_old t) && sym stored_old t);
}

next-observable : (n D i : ℕ) (x : Step) (back : List Step) → D ≤ i → IsNext n D i x back
next-observable n D i x back le =
    next-by n D i x back (asks_observable (i - D) x) _ _ _ _ (region-observable n D i back le) (retained-observable n D i back le) (region-observable n D i (x ∷ back) le)
    (retained-observable n D i (x ∷ back) le) (asked-observable D (detectors_before D back) i x le) refl refl

-- a detector in front stays in front
next-front : (n D i : ℕ) (x : Step) (back : List Step) → i < D → i < detectors_before D back → i < detectors_before D (x ∷ back)
    → asked_of D (detectors_before D back) i x ≡ [] → IsNext n D i x back
next-front n D i x back lt front still asked =
    next-by n D i x back [] (region_of n []) (region_of n []) true true (region-front n D i back lt front) (preserved-front n D i back lt front)
    (region-front n D i (x ∷ back) lt still) (preserved-front n D i (x ∷ back) lt still) asked (ap (with_looks []) (sym (none-before n x)))
    (ap (λ b. b && true) (sym (none-preserved n x)))

module _ (n D i : ℕ) (x : Step) (back : List Step) (lt : i < D) where
  -- a step that is no detector
  next-other : is_detector x ≡ false → (i < detectors_before D back) ⊎ (detectors_before D back ≤ i) → IsNext n D i x back
  next-other e (inl front) =
      next-front n D i x back lt front (let same = count-other x back e in omega arith) (asked-other D (detectors_before D back) i x lt e)
  next-other e (inr le) =
      let d : ℕ = i - detectors_before D back in
      next-by n D i x back [] _ _ _ _ (region-among n D i back d lt (omega arith)) (retained-among n D i back d lt (omega arith))
      (region-among n D i (x ∷ back) d lt (let same = count-other x back e in omega arith)
      ∙ (λ t. region_through n asks_nothing (before-other x back d e t) (region_of n (named-other x back d e t))))
      (retained-among n D i (x ∷ back) d lt (let same = count-other x back e in omega arith)
      ∙ (λ t. keep_region n asks_nothing (before-other x back d e t) (region_of n (named-other x back d e t))))
      (asked-other D (detectors_before D back) i x lt e) refl refl

module _ (n D i : ℕ) (ks : List ℕ) (back : List Step) (lt : i < D) (room : 0 < detectors_before D back) where
  abbrev before : ℕ
  before = detectors_before D back

  -- a detector
  next-detector : (i < before) ⊎ (before ≤ i) → (i + 1 ≡ before) ⊎ (i + 1 ≡ before → ⊥) → IsNext n D i (detector ks) back
  next-detector (inl front) (inl e) =
      next-by n D i (detector ks) back ks (region_of n []) (region_of n ks) true true (region-front n D i back lt front) (preserved-front n D i back lt front)
      (region-among n D i (detector ks ∷ back) 0 lt (omega arith)) (retained-among n D i (detector ks ∷ back) 0 lt (omega arith))
      (asked-detector D before i (detector ks) true lt (eq-eqb (i + 1) before e))
      (ap (λ looks. record { string = identity n; looks = looks }) (sym (append-nil ks))) refl
  next-detector (inl front) (inr ne) =
      next-front n D i (detector ks) back lt front (omega arith) (asked-detector D before i (detector ks) false lt (ne_eqb (i + 1) before ne))
  next-detector (inr le) e =
      let d : ℕ = i - before in
      next-by n D i (detector ks) back [] _ _ _ _ (region-among n D i back d lt (omega arith)) (retained-among n D i back d lt (omega arith))
      (region-among n D i (detector ks ∷ back) (suc d) lt (omega arith)) (retained-among n D i (detector ks ∷ back) (suc d) lt (omega arith))
      (asked-detector D before i (detector ks) false lt (ne_eqb (i + 1) before (λ same. omega arith))) refl refl

-- a detector has its number
abbrev pub HasNumber : (D : ℕ) → Step → List Step → Type 0
HasNumber D x back = is_detector x ≡ true → 0 < detectors_before D back

pub is-next : (n D i : ℕ) (x : Step) (back : List Step) → HasNumber D x back → IsNext n D i x back
is-next n D i x back room = at (cases_lt i D)
  where
    other : i < D → is_detector x ≡ false → IsNext n D i x back
    other lt e = next-other n D i x back lt e (cases_lt i (detectors_before D back))

    by_kind : (y : Step) → x ≡ y → i < D → IsNext n D i x back
    by_kind (one g q) e lt = other lt (ap is_detector e)
    by_kind (two g a b) e lt = other lt (ap is_detector e)
    by_kind (controlled l k q) e lt = other lt (ap is_detector e)
    by_kind (collapse l q recorded inverted resets) e lt = other lt (ap is_detector e)
    by_kind (product factors inverted) e lt = other lt (ap is_detector e)
    by_kind (observable j ks) e lt = other lt (ap is_detector e)
    by_kind (detector ks) e lt =
        subst (λ y. IsNext n D i y back) (sym e)
        (next-detector n D i ks back lt (room (ap is_detector e)) (cases_lt i (detectors_before D back)) (cases_eq (i + 1) (detectors_before D back)))

    at : (i < D) ⊎ (D ≤ i) → IsNext n D i x back
    at (inl lt) = by_kind x refl lt
    at (inr le) = next-observable n D i x back le
