-- Detectors among steps: how many there are, the steps before each, its region in the table, and the bit that a run gives it.
use Rattle.stab_regions.proofs.Names.{◌≡◌, ℕ, zero, suc, ◌+◌, ◌<◌, refl, sym, ◌∙◌, ap, subst, arith, Bool, true, false, List, [], ◌∷◌, ◌++◌, length, if◌then◌else◌, slice_index_or, All-nil, All-cons, All-head, All-tail, Step, one, two, controlled, collapse, product, detector, observable, is_detector, detectors_of, parity, State, start, run, when, Point, origin, given, next_point, outputs, StepFits, RunsArePointsWithOutputs, asks_nothing, bit_asked, named_by_detector, steps_before_detector, named_by}
use Rattle.std.proofs.Common.{All}

-- the first step, if it is a detector and if it is not: how many there are, the steps before detector d, and what it names

module _ (x : Step) (xs : List Step) where
  pub count-other : is_detector x ≡ false → detectors_of (x ∷ xs) ≡ detectors_of xs
  count-other e = ap (λ b. if b then 1 + detectors_of xs else detectors_of xs) e

  pub count-detector : is_detector x ≡ true → detectors_of (x ∷ xs) ≡ 1 + detectors_of xs
  count-detector e = ap (λ b. if b then 1 + detectors_of xs else detectors_of xs) e

  pub before-other : (d : ℕ) → is_detector x ≡ false → steps_before_detector d (x ∷ xs) ≡ x ∷ steps_before_detector d xs
  before-other zero e = ap (λ b. if b then [] else x ∷ steps_before_detector zero xs) e
  before-other (suc d) e = ap (λ b. x ∷ (if b then steps_before_detector d xs else steps_before_detector (suc d) xs)) e

  pub named-other : (d : ℕ) → is_detector x ≡ false → named_by d (x ∷ xs) ≡ named_by d xs
  named-other zero e = ap (λ b. if b then named_by_detector x else named_by zero xs) e
  named-other (suc d) e = ap (λ b. if b then named_by d xs else named_by (suc d) xs) e

  pub before-first : is_detector x ≡ true → steps_before_detector zero (x ∷ xs) ≡ []
  before-first e = ap (λ b. if b then [] else x ∷ steps_before_detector zero xs) e

  pub named-first : is_detector x ≡ true → named_by zero (x ∷ xs) ≡ named_by_detector x
  named-first e = ap (λ b. if b then named_by_detector x else named_by zero xs) e

  pub before-next : (d : ℕ) → is_detector x ≡ true → steps_before_detector (suc d) (x ∷ xs) ≡ x ∷ steps_before_detector d xs
  before-next d e = ap (λ b. x ∷ (if b then steps_before_detector d xs else steps_before_detector (suc d) xs)) e

  pub named-next : (d : ℕ) → is_detector x ≡ true → named_by (suc d) (x ∷ xs) ≡ named_by d xs
  named-next d e = ap (λ b. if b then named_by d xs else named_by (suc d) xs) e

-- the steps before a detector are a front of all
pub before-front : (d : ℕ) (xs : List Step) → (rest : List Step) × (xs ≡ steps_before_detector d xs ++ rest)
before-front d [] = ([], refl)
before-front zero (x ∷ xs) = by_kind (is_detector x) refl (before-front zero xs)
  where
    by_kind : (b : Bool) → is_detector x ≡ b → (rest : List Step) × (xs ≡ steps_before_detector zero xs ++ rest) → (rest : List Step) × (x ∷ xs ≡ steps_before_detector zero (x ∷ xs) ++ rest)
    by_kind true e later = (x ∷ xs, ap (λ ys. ys ++ x ∷ xs) (sym (before-first x xs e)))
    by_kind false e later = (later.0, ap (λ ys. x ∷ ys) later.1 ∙ ap (λ ys. ys ++ later.0) (sym (before-other x xs zero e)))
before-front (suc d) (x ∷ xs) = by_kind (is_detector x) refl (before-front d xs) (before-front (suc d) xs)
  where
    by_kind : (b : Bool) → is_detector x ≡ b → (rest : List Step) × (xs ≡ steps_before_detector d xs ++ rest) → (rest : List Step) × (xs ≡ steps_before_detector (suc d) xs ++ rest)
        → (rest : List Step) × (x ∷ xs ≡ steps_before_detector (suc d) (x ∷ xs) ++ rest)
    by_kind true e next other = (next.0, ap (λ ys. x ∷ ys) next.1 ∙ ap (λ ys. ys ++ next.0) (sym (before-next x xs d e)))
    by_kind false e next other = (other.0, ap (λ ys. x ∷ ys) other.1 ∙ ap (λ ys. ys ++ other.0) (sym (before-other x xs (suc d) e)))

-- a front fits if all do
pub fits-front : (n : ℕ) (xs ys : List Step) → All (StepFits n) (xs ++ ys) → All (StepFits n) xs
fits-front n [] ys fits = All-nil (StepFits n)
fits-front n (x ∷ xs) ys fits =
    All-cons (StepFits n) x xs (All-head (StepFits n) x (xs ++ ys) fits) (fits-front n xs ys (All-tail (StepFits n) x (xs ++ ys) fits))

-- and so does what follows it
pub fits-back : (n : ℕ) (xs ys : List Step) → All (StepFits n) (xs ++ ys) → All (StepFits n) ys
fits-back n [] ys fits = fits
fits-back n (x ∷ xs) ys fits = fits-back n xs ys (All-tail (StepFits n) x (xs ++ ys) fits)

-- so the steps before a detector fit
pub fits-before : (n d : ℕ) (xs : List Step) → All (StepFits n) xs → All (StepFits n) (steps_before_detector d xs)
fits-before n d xs fits =
    let front = before-front d xs in
    fits-front n (steps_before_detector d xs) front.0 (subst (All (StepFits n)) front.1 fits)

-- there is no such number
pub none : (d : ℕ) → d < 0 → ⊥
none d lt = omega arith

-- the bits of a run

-- a step gives a detector's bit if it is a detector
detectors-given : (n : ℕ) (coins : ℕ → Bool) (x : Step) (p : Point) → (given n coins x p).detectors ≡ when (is_detector x) (parity p.records (named_by_detector x))
detectors-given n coins (one g q) p = refl
detectors-given n coins (two g a b) p = refl
detectors-given n coins (controlled l k q) p = refl
detectors-given n coins (collapse l q recorded inverted resets) p = refl
detectors-given n coins (product factors inverted) p = refl
detectors-given n coins (detector ks) p = refl
detectors-given n coins (observable j ks) p = refl

-- what steps give has each detector's bit
abbrev HasBits : ℕ → (ℕ → Bool) → List Step → Point → Type 0
HasBits n coins xs p =
    (d : ℕ) → d < detectors_of xs → slice_index_or (outputs n coins xs p).detectors d false ≡ bit_asked n coins asks_nothing (steps_before_detector d xs) (named_by d xs) p

module _ (n : ℕ) (coins : ℕ → Bool) (x : Step) (xs : List Step) (p : Point) (later : HasBits n coins xs (next_point n coins x p)) where
  abbrev bits_after : List Bool
  bits_after = (outputs n coins xs (next_point n coins x p)).detectors

  -- the first step's bit comes first, if it has one
  bits-given : (b : Bool) → is_detector x ≡ b → (outputs n coins (x ∷ xs) p).detectors ≡ when b (parity p.records (named_by_detector x)) ++ bits_after
  bits-given b e = ap (λ bits. bits ++ bits_after) (detectors-given n coins x p ∙ ap (λ c. when c (parity p.records (named_by_detector x))) e)

  -- so each bit has its position
  bits-next : (b : Bool) → is_detector x ≡ b → HasBits n coins (x ∷ xs) p
  bits-next false e d lt =
      ap (λ bits. slice_index_or bits d false) (bits-given false e)
      ∙ later d (omega (arith, lt, count-other x xs e))
      ∙ (λ i. bit_asked n coins asks_nothing (sym (before-other x xs d e) i) (sym (named-other x xs d e) i) p)
  bits-next true e zero lt =
      ap (λ bits. slice_index_or bits zero false) (bits-given true e)
      ∙ (λ i. bit_asked n coins asks_nothing (sym (before-first x xs e) i) (sym (named-first x xs e) i) p)
  bits-next true e (suc d) lt =
      ap (λ bits. slice_index_or bits (suc d) false) (bits-given true e)
      ∙ later d (omega (arith, lt, count-detector x xs e))
      ∙ (λ i. bit_asked n coins asks_nothing (sym (before-next x xs d e) i) (sym (named-next x xs d e) i) p)

-- by induction on the steps
has-bits : (n : ℕ) (coins : ℕ → Bool) (xs : List Step) (p : Point) → HasBits n coins xs p
has-bits n coins [] p d lt = absurd (none d lt)
has-bits n coins (x ∷ xs) p d lt = bits-next n coins x xs p (has-bits n coins xs (next_point n coins x p)) (is_detector x) refl d lt

-- a detector of the run of steps, with this many observables
abbrev pub detector_bit : ℕ → (ℕ → Bool) → List Step → ℕ → ℕ → Bool
detector_bit n coins xs count d = slice_index_or (run n coins xs (start count)).detectors d false

-- a detector of a run is the parity that is asked for after the steps before it
pub detector-bit : RunsArePointsWithOutputs → (n : ℕ) (coins : ℕ → Bool) (xs : List Step) (count d : ℕ) → d < detectors_of xs
    → detector_bit n coins xs count d ≡ bit_asked n coins asks_nothing (steps_before_detector d xs) (named_by d xs) origin
detector-bit law n coins xs count d lt = ap (λ (s : State). slice_index_or s.detectors d false) (law n coins xs (start count)) ∙ has-bits n coins xs origin d lt

-- steps give a bit for each detector
length-given : (n : ℕ) (coins : ℕ → Bool) (xs : List Step) (p : Point) → length (outputs n coins xs p).detectors ≡ detectors_of xs
length-given n coins [] p = refl
length-given n coins (x ∷ xs) p = by_kind (is_detector x) refl (length-given n coins xs (next_point n coins x p))
  where
    here : (b : Bool) → is_detector x ≡ b
        → length (outputs n coins (x ∷ xs) p).detectors ≡ length (when b (parity p.records (named_by_detector x)) ++ (outputs n coins xs (next_point n coins x p)).detectors)
    here b e =
        ap (λ bits. length (bits ++ (outputs n coins xs (next_point n coins x p)).detectors))
        (detectors-given n coins x p ∙ ap (λ c. when c (parity p.records (named_by_detector x))) e)

    by_kind : (b : Bool) → is_detector x ≡ b → length (outputs n coins xs (next_point n coins x p)).detectors ≡ detectors_of xs
        → length (outputs n coins (x ∷ xs) p).detectors ≡ detectors_of (x ∷ xs)
    by_kind true e later = here true e ∙ omega (arith, later) ∙ sym (count-detector x xs e)
    by_kind false e later = here false e ∙ later ∙ sym (count-other x xs e)

-- so a run has a bit for each
pub count-detectors : RunsArePointsWithOutputs → (n : ℕ) (coins : ℕ → Bool) (xs : List Step) (count : ℕ)
    → length (run n coins xs (start count)).detectors ≡ detectors_of xs
count-detectors law n coins xs count = ap (λ (s : State). length s.detectors) (law n coins xs (start count)) ∙ length-given n coins xs origin
