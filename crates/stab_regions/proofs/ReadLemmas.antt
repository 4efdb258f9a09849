-- Reading: at a point a region reads a bit if its string stabilises with the sign that makes it so; steps that keep the region
-- come to a point where the region after them reads the same bit.
use Rattle.stab_regions.proofs.Names.{◌≡◌, ℕ, ◌<◌, refl, sym, ◌∙◌, ap, arith, Bool, true, false, not, ◌&&◌, List, [], ◌∷◌, ◌++◌, append-nil, length, if◌then◌else◌, Letter, ◌⊕◌, Signed, single, with_sign, anticommute, times, parity-false, length-product, inverse, back, back_pair, Event, projected, member, length-one_letter, image-length, pair-length, test_left, test_right, Step, one, two, controlled, collapse, product, detector, observable, length-string_of, sign-sign, product-sign_right, looked_up, parity, when, string_of, flip_of, applied_where, outcome_at, Point, next_point, StepFits, Region, names_newest, earlier, product_where, before_measured, region_before, region_through, keeps_region}
use Rattle.stab_regions.proofs.SignLemmas.{image-sign, pair-sign, product-signs, member-where}
use Rattle.stab_regions.proofs.LookLemmas.{parity-where, parity-when}

-- sizes

pub length-times : (n : ℕ) (bit : Bool) (m p : Signed) → length m.letters ≡ n → length p.letters ≡ n → length (product_where bit m p).letters ≡ n
length-times n true m p lm lp = length-product n m p lm lp
length-times n false m p lm lp = lp

pub size-before : (n : ℕ) (x : Step) (r : Region) → length r.string.letters ≡ n → length (region_before n x r).string.letters ≡ n
size-before n (one g q) r long = image-length (inverse g) q r.string ∙ long
size-before n (two g a b) r long = pair-length g a b r.string ∙ long
size-before n (controlled l k q) r long = long
size-before n (collapse l q recorded inverted resets) r long = length-times n _ (single n q l) _ (length-one_letter n q l) long
size-before n (product factors inverted) r long = length-times n _ (string_of n factors) _ (length-string_of n factors) long
size-before n (detector ks) r long = long
size-before n (observable j ks) r long = long

pub size-through : (n : ℕ) (asked : Step → List ℕ) (xs : List Step) (r : Region) → length r.string.letters ≡ n → length (region_through n asked xs r).string.letters ≡ n
size-through n asked [] r long = long
size-through n asked (x ∷ xs) r long = size-before n x (region_through n asked xs r) (size-through n asked xs r long)

-- reading

abbrev pub Reads : Point → Region → Bool → Type 0
Reads p r b = member p.trace (with_sign (b ⊕ parity p.records r.looks) r.string) ≡ true

pub commuting : (m p : Signed) → not (anticommute m p) ≡ true → anticommute m p ≡ false
commuting m p e = off (anticommute m p) e
  where
    off : (b : Bool) → not b ≡ true → b ≡ false
    off b e = grind arith

-- after a projection the string has a sign that counts the outcome, if it was multiplied before it
projected-reads : (m s : Signed) (t : List Event) (o d c : Bool) → anticommute m s ≡ false → member t (with_sign c (product_where d m s)) ≡ true
    → member (projected m o ∷ t) (with_sign (c ⊕ (d && o)) s) ≡ true
projected-reads m s t o false c distinct h =
    test_left (anticommute m s) _ _ distinct (ap (λ x. member t (with_sign x s)) (parity-false c) ∙ h)
projected-reads m s t o true c distinct h =
    test_right (anticommute m s) _ _ distinct
    (ap (member t) (product-signs o (c ⊕ o) m s distinct ∙ ap (λ x. with_sign x (times m s)) (round o c)) ∙ h)
  where
    round : (o c : Bool) → o ⊕ (c ⊕ o) ≡ c
    round o c = grind arith

pub times-sign : (d v : Bool) (m s : Signed) → anticommute m s ≡ false → product_where d m (with_sign v s) ≡ with_sign v (product_where d m s)
times-sign true v m s distinct = product-sign_right v m s distinct
times-sign false v m s distinct = refl

-- the signs that a measurement, its record and its correction make of a string
signs : (e f w i o b p : Bool) → ((e && o) && f) ⊕ (b ⊕ ((w && (i ⊕ o)) ⊕ p)) ≡ ((b ⊕ p) ⊕ (w && i)) ⊕ ((w ⊕ (e && f)) && o)
signs e f w i o b p = grind arith

signs-plain : (w i o b p : Bool) → b ⊕ ((w && (i ⊕ o)) ⊕ p) ≡ ((b ⊕ p) ⊕ (w && i)) ⊕ ((w ⊕ false) && o)
signs-plain w i o b p = grind arith

feedback-signs : (bit a b p : Bool) → (bit && a) ⊕ (b ⊕ p) ≡ b ⊕ ((a && bit) ⊕ p)
feedback-signs bit a b p = grind arith

module _ (t : List Event) (records : List Bool) (m : Signed) (r : Region) (b recorded inverted : Bool) (distinct : anticommute m r.string ≡ false) where
  -- whether the record of the outcome counts, and the parity of the others
  abbrev counted : Bool
  counted = recorded && names_newest r.looks

  abbrev others : Bool
  others = parity records (if recorded then earlier r.looks else r.looks)

  before-measured : (corrected : Bool)
      → member t (with_sign (b ⊕ parity records (before_measured m recorded inverted corrected r).looks) (before_measured m recorded inverted corrected r).string) ≡ true
      → member t (with_sign ((b ⊕ others) ⊕ (counted && inverted)) (product_where (counted ⊕ corrected) m r.string)) ≡ true
  before-measured corrected h =
      ap (member t) (sym (ap (with_sign (b ⊕ others)) (times-sign (counted ⊕ corrected) (counted && inverted) m r.string distinct) ∙ sign-sign (b ⊕ others) (counted && inverted) _)) ∙ h

  -- a measurement and a correction by a letter
  pub measured-reads : (n q : ℕ) (l : Letter) (resets o : Bool) → q < n → length r.string.letters ≡ n
      → member t (with_sign (b ⊕ parity records (before_measured m recorded inverted (resets && anticommute (single n q l) r.string) r).looks) (before_measured m recorded inverted (resets && anticommute (single n q l) r.string) r).string) ≡ true
      → member (applied_where (resets && o) l q (projected m o ∷ t)) (with_sign (b ⊕ parity (records ++ when recorded (inverted ⊕ o)) r.looks) r.string) ≡ true
  measured-reads n q l resets o lt long h =
      member-where n q l (resets && o) (projected m o ∷ t) _ long lt
      ∙ ap (member (projected m o ∷ t))
      (sign-sign _ _ r.string
      ∙ ap (λ x. with_sign x r.string)
      (ap (λ x. ((resets && o) && anticommute (single n q l) r.string) ⊕ (b ⊕ x)) (parity-when records recorded (inverted ⊕ o) r.looks)
      ∙ signs resets (anticommute (single n q l) r.string) counted inverted o b others))
      ∙ projected-reads m r.string t o _ _ distinct (before-measured (resets && anticommute (single n q l) r.string) h)

  -- a measurement alone
  pub product-reads : (o : Bool)
      → member t (with_sign (b ⊕ parity records (before_measured m recorded inverted false r).looks) (before_measured m recorded inverted false r).string) ≡ true
      → member (projected m o ∷ t) (with_sign (b ⊕ parity (records ++ when recorded (inverted ⊕ o)) r.looks) r.string) ≡ true
  product-reads o h =
      ap (λ x. member (projected m o ∷ t) (with_sign x r.string))
      (ap (λ x. b ⊕ x) (parity-when records recorded (inverted ⊕ o) r.looks) ∙ signs-plain counted inverted o b others)
      ∙ projected-reads m r.string t o _ _ distinct (before-measured false h)

-- a step that keeps the region
pub reads-next : (n : ℕ) (coins : ℕ → Bool) (x : Step) (p : Point) (r : Region) (b : Bool) → StepFits n x → length r.string.letters ≡ n
    → keeps_region n x r ≡ true → Reads p (region_before n x r) b → Reads (next_point n coins x p) r b
reads-next n coins (one g q) p r b fits long preserved h =
    ap (λ rs. member p.trace (back g q (with_sign (b ⊕ parity rs r.looks) r.string))) (append-nil p.records)
    ∙ ap (member p.trace) (image-sign (inverse g) q (b ⊕ parity p.records r.looks) r.string) ∙ h
reads-next n coins (two g i j) p r b fits long preserved h =
    ap (λ rs. member p.trace (back_pair g i j (with_sign (b ⊕ parity rs r.looks) r.string))) (append-nil p.records)
    ∙ ap (member p.trace) (pair-sign g i j (b ⊕ parity p.records r.looks) r.string) ∙ h
reads-next n coins (controlled l k q) p r b fits long preserved h =
    ap (λ rs. member (applied_where (looked_up p.records k) l q p.trace) (with_sign (b ⊕ parity rs r.looks) r.string)) (append-nil p.records)
    ∙ member-where n q l (looked_up p.records k) p.trace _ long fits
    ∙ ap (member p.trace)
    (sign-sign _ _ r.string
    ∙ ap (λ x. with_sign x r.string)
    (feedback-signs (looked_up p.records k) (anticommute (single n q l) r.string) b (parity p.records r.looks)
    ∙ ap (λ x. b ⊕ x) (sym (parity-where p.records (anticommute (single n q l) r.string) k r.looks))))
    ∙ h
reads-next n coins (collapse l q recorded inverted resets) p r b fits long preserved h =
    measured-reads p.trace p.records (single n q l) r b recorded inverted (commuting (single n q l) r.string preserved) n q (flip_of l) resets
    (outcome_at coins (single n q l) p.trace p.coin) fits long h
reads-next n coins (product factors inverted) p r b fits long preserved h =
    product-reads p.trace p.records (string_of n factors) r b true inverted (commuting (string_of n factors) r.string preserved)
    (outcome_at coins (string_of n factors) p.trace p.coin) h
reads-next n coins (detector ks) p r b fits long preserved h =
    ap (λ rs. member p.trace (with_sign (b ⊕ parity rs r.looks) r.string)) (append-nil p.records) ∙ h
reads-next n coins (observable j ks) p r b fits long preserved h =
    ap (λ rs. member p.trace (with_sign (b ⊕ parity rs r.looks) r.string)) (append-nil p.records) ∙ h
