-- Negated regions: one more ! at a record negates each region that names it, and nothing else of any region in front of it.
use Rattle.stab_regions.proofs.Names.{◌≡◌, ℕ, ◌+◌, ◌-◌, ◌≤◌, refl, sym, ap, ◌∙◌, arith, Bool, true, false, not, ◌&&◌, List, ◌∷◌, [], ◌++◌, if◌then◌else◌, Letter, ◌⊕◌, Factor, Signed, single, with_sign, anticommute, signed_path, sign-sign, inverse, and-left, and-right, Step, one, two, controlled, collapse, product, detector, observable, is_detector, detectors_of, string_of, flip_of, Region, names_newest, earlier, product_where, before_measured, region_before, with_looks, keeps_region, detectors_before, parity_region, parity_preserved, asked_of}
use Rattle.stab_regions.proofs.SignLemmas.{parity-left, image-sign, pair-sign}
use Rattle.stab_regions.proofs.DetectorLemmas.{count-detector}
use Rattle.stab_regions.proofs.ParityLemmas.{IsNext, is-next}
use Rattle.stab_regions.proofs.ReadLemmas.{commuting, times-sign}

-- a region whose string has the other sign, if the bit is 1
abbrev pub negated : Bool → Region → Region
negated b r = record { string = with_sign b r.string; looks = r.looks }

-- one step

signs-swapped : (a b : Bool) (p : Signed) → with_sign a (with_sign b p) ≡ with_sign b (with_sign a p)
signs-swapped a b p = signed_path _ _ (parity-left a b p.negative) refl

measured-negated : (m : Signed) (recorded inverted corrected b : Bool) (r : Region) → anticommute m r.string ≡ false
    → before_measured m recorded inverted corrected (negated b r) ≡ negated b (before_measured m recorded inverted corrected r)
measured-negated m recorded inverted corrected b r distinct =
    let counts : Bool = recorded && names_newest r.looks in
    ap (λ s. record { string = s; looks = if recorded then earlier r.looks else r.looks })
    (ap (product_where (counts ⊕ corrected) m) (signs-swapped (counts && inverted) b r.string)
    ∙ times-sign (counts ⊕ corrected) b m (with_sign (counts && inverted) r.string) distinct)

negated-before : (n : ℕ) (x : Step) (b : Bool) (r : Region) → keeps_region n x r ≡ true → region_before n x (negated b r) ≡ negated b (region_before n x r)
negated-before n (one g q) b r preserved = ap (λ s. record { string = s; looks = r.looks }) (image-sign (inverse g) q b r.string)
negated-before n (two g i j) b r preserved = ap (λ s. record { string = s; looks = r.looks }) (pair-sign g i j b r.string)
negated-before n (controlled l k q) b r preserved = refl
negated-before n (collapse l q recorded inverted resets) b r preserved =
    measured-negated (single n q l) recorded inverted (resets && anticommute (single n q (flip_of l)) r.string) b r (commuting (single n q l) r.string preserved)
negated-before n (product factors inverted) b r preserved = measured-negated (string_of n factors) true inverted false b r (commuting (string_of n factors) r.string preserved)
negated-before n (detector ks) b r preserved = refl
negated-before n (observable j ks) b r preserved = refl

keeps-negated : (n : ℕ) (x : Step) (b : Bool) (r : Region) → keeps_region n x (negated b r) ≡ keeps_region n x r
keeps-negated n (one g q) b r = refl
keeps-negated n (two g i j) b r = refl
keeps-negated n (controlled l k q) b r = refl
keeps-negated n (collapse l q recorded inverted resets) b r = refl
keeps-negated n (product factors inverted) b r = refl
keeps-negated n (detector ks) b r = refl
keeps-negated n (observable j ks) b r = refl

-- detectors after a step

counted-more : (b : Bool) (d : ℕ) → d ≤ (if b then 1 + d else d)
counted-more true d = omega arith
counted-more false d = omega arith

pub count-least : (x : Step) (back : List Step) → detectors_of back ≤ detectors_of (x ∷ back)
count-least x back = counted-more (is_detector x) (detectors_of back)

count-same : (x : Step) (new old : List Step) → detectors_of new ≡ detectors_of old → detectors_of (x ∷ new) ≡ detectors_of (x ∷ old)
count-same x new old e = ap (λ d. if is_detector x then 1 + d else d) e

pub count-following : (front back : List Step) → detectors_of back ≤ detectors_of (front ++ back)
count-following [] back = omega arith
count-following (x ∷ xs) back = omega (arith, count-following xs back, count-least x (xs ++ back))

-- these steps have, of a parity, the region of those, negated if the bit is 1
pub record AreNegated (n D i : ℕ) (b : Bool) (new old : List Step) : Type 0 where
  pub region : parity_region n D i new ≡ negated b (parity_region n D i old)
  pub preserved : parity_preserved n D i new ≡ parity_preserved n D i old
  pub detectors : detectors_of new ≡ detectors_of old

module _ (n D i : ℕ) where
  -- the region before a step, if there are enough detectors
  pub next-of : (x : Step) (back : List Step) → detectors_of (x ∷ back) ≤ D → IsNext n D i x back
  next-of x back few = is-next n D i x back (λ e. let one_more = count-detector x back e in omega (arith, few, one_more))

  -- what is preserved is so by each step

  pub preserved-following : (x : Step) (back : List Step) → detectors_of (x ∷ back) ≤ D → parity_preserved n D i (x ∷ back) ≡ true → parity_preserved n D i back ≡ true
  preserved-following x back few preserved = and-right (keeps_region n x (parity_region n D i back)) (parity_preserved n D i back) (sym (next-of x back few).preserved ∙ preserved)

  pub preserved-here : (x : Step) (back : List Step) → detectors_of (x ∷ back) ≤ D → parity_preserved n D i (x ∷ back) ≡ true → keeps_region n x (parity_region n D i back) ≡ true
  preserved-here x back few preserved = and-left (keeps_region n x (parity_region n D i back)) (parity_preserved n D i back) (sym (next-of x back few).preserved ∙ preserved)

  pub preserved-last : (front back : List Step) → detectors_of (front ++ back) ≤ D → parity_preserved n D i (front ++ back) ≡ true → parity_preserved n D i back ≡ true
  preserved-last [] back few preserved = preserved
  preserved-last (x ∷ xs) back few preserved = preserved-last xs back (omega (arith, few, count-least x (xs ++ back))) (preserved-following x (xs ++ back) few preserved)

  -- negated regions stay so

  negated-more : (b : Bool) (x : Step) (new old : List Step) → AreNegated n D i b new old → detectors_of (x ∷ old) ≤ D → parity_preserved n D i (x ∷ old) ≡ true
      → AreNegated n D i b (x ∷ new) (x ∷ old)
  negated-more b x new old a few preserved =
      let same : detectors_of (x ∷ new) ≡ detectors_of (x ∷ old) = count-same x new old a.detectors in
      let r : Region = parity_region n D i old in
      let there = next-of x new (omega (arith, few, same)) in
      let here = next-of x old few in
      let looks : List ℕ = asked_of D (detectors_before D old) i x in
      record {
        region =
            there.region
            ∙ ap (λ d. with_looks (asked_of D (D - d) i x) (region_before n x (parity_region n D i new))) a.detectors
            ∙ ap (λ s. with_looks looks (region_before n x s)) a.region
            ∙ ap (with_looks looks) (negated-before n x b r (preserved-here x old few preserved))
            ∙ sym (ap (negated b) here.region);
        preserved =
            there.preserved
            ∙ (λ t. keeps_region n x (a.region t) && a.preserved t)
            ∙ ap (λ c. c && parity_preserved n D i old) (keeps-negated n x b r)
            ∙ sym here.preserved;
        detectors = same;
      }

  pub negated-front : (b : Bool) (new old : List Step) → AreNegated n D i b new old → (front : List Step) → detectors_of (front ++ old) ≤ D
      → parity_preserved n D i (front ++ old) ≡ true → AreNegated n D i b (front ++ new) (front ++ old)
  negated-front b new old a [] few preserved = a
  negated-front b new old a (x ∷ xs) few preserved =
      negated-more b x (xs ++ new) (xs ++ old)
      (negated-front b new old a xs (omega (arith, few, count-least x (xs ++ old))) (preserved-following x (xs ++ old) few preserved)) few preserved

-- one more ! at a record
measured-inverted : (m : Signed) (inverted corrected : Bool) (r : Region) → anticommute m r.string ≡ false
    → before_measured m true (not inverted) corrected r ≡ negated (names_newest r.looks) (before_measured m true inverted corrected r)
measured-inverted m inverted corrected r distinct =
    let named : Bool = names_newest r.looks in
    ap (λ s. record { string = s; looks = earlier r.looks })
    (ap (product_where (named ⊕ corrected) m) (ap (λ b. with_sign b r.string) (once named inverted) ∙ sym (sign-sign named (named && inverted) r.string))
    ∙ times-sign (named ⊕ corrected) named m (with_sign (named && inverted) r.string) distinct)
  where
    once : (a b : Bool) → (a && not b) ≡ a ⊕ (a && b)
    once a b = grind arith

module _ (n D i : ℕ) (back : List Step) where
  -- whether the parity names the record that is made in front of these steps
  abbrev pub named_there : Bool
  named_there = names_newest (parity_region n D i back).looks

  -- by the two steps, which differ in that
  inverted-negated : (x y : Step) → is_detector x ≡ is_detector y → detectors_of (x ∷ back) ≤ D → keeps_region n y (parity_region n D i back) ≡ keeps_region n x (parity_region n D i back)
      → asked_of D (detectors_before D back) i y ≡ asked_of D (detectors_before D back) i x
      → region_before n y (parity_region n D i back) ≡ negated named_there (region_before n x (parity_region n D i back))
      → AreNegated n D i named_there (y ∷ back) (x ∷ back)
  inverted-negated x y alike few keeps asked turns =
      let same : detectors_of (y ∷ back) ≡ detectors_of (x ∷ back) = ap (λ b. if b then 1 + detectors_of back else detectors_of back) (sym alike) in
      let there = next-of n D i y back (omega (arith, few, same)) in
      let here = next-of n D i x back few in
      record {
        region =
            there.region
            ∙ (λ t. with_looks (asked t) (turns t))
            ∙ sym (ap (negated named_there) here.region);
        preserved = there.preserved ∙ ap (λ c. c && parity_preserved n D i back) keeps ∙ sym here.preserved;
        detectors = same;
      }

  pub collapse-negated : (l : Letter) (q : ℕ) (inverted resets : Bool) → detectors_of (collapse l q true inverted resets ∷ back) ≤ D
      → parity_preserved n D i (collapse l q true inverted resets ∷ back) ≡ true
      → AreNegated n D i named_there (collapse l q true (not inverted) resets ∷ back) (collapse l q true inverted resets ∷ back)
  collapse-negated l q inverted resets few preserved =
      let r : Region = parity_region n D i back in
      inverted-negated (collapse l q true inverted resets) (collapse l q true (not inverted) resets) refl few refl refl
      (measured-inverted (single n q l) inverted (resets && anticommute (single n q (flip_of l)) r.string) r
      (commuting (single n q l) r.string (preserved-here n D i (collapse l q true inverted resets) back few preserved)))

  pub product-negated : (factors : List Factor) (inverted : Bool) → detectors_of (product factors inverted ∷ back) ≤ D
      → parity_preserved n D i (product factors inverted ∷ back) ≡ true
      → AreNegated n D i named_there (product factors (not inverted) ∷ back) (product factors inverted ∷ back)
  product-negated factors inverted few preserved =
      let r : Region = parity_region n D i back in
      inverted-negated (product factors inverted) (product factors (not inverted)) refl few refl refl
      (measured-inverted (string_of n factors) inverted false r
      (commuting (string_of n factors) r.string (preserved-here n D i (product factors inverted) back few preserved)))
