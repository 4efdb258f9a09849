-- Listed errors: where a letter lands there are errors that flip what it flips: one of all letters, or some that have X or Z alone.
use Rattle.stab_error_model.proofs.Names.{◌≡◌, ℕ, ◌+◌, ◌≤◌, ◌<◌, ◌⊎◌, inl, inr, refl, sym, ap, ◌∙◌, subst, Bool, true, false, List, [], ◌∷◌, ◌++◌, length, take, drop, take-append-drop, length-take-le, arith, All, Contains, All-nil, All-cons, All-head, All-tail, All-append, All-drop, All-weaker, All-contains, flat_map, flat_map-append, Letter, I, X, Y, Z, ◌⊕◌, parity-false, Items, unroll, records_of, detectors_of, observables_of, Step, StepFits, SingleError, Site, single_error_on, bits_in, IsDeterministic, flips, SingleErrorFits, flips_together, SingleErrorsAdd, DeterministicParities, SitesFlipDeterministicParities, and-left, diagonal, parity_region, parity_preserved, parity_flips, parity_deterministic, none-flips, y-flips, preserved-last, count-following, Error, letter, single_errors_in, letters_asked, pairs_asked, each_letter, product_at, errors_from, errors_of, letter_parts, ErrorLetters, flip_together, FlipAlike}
use Rattle.stab_jobs.specs.declared.job.ErrorLetters.TheVariants as letters_of
use Rattle.stab_error_model.proofs.FitLemmas.{Fits, together-append}
use Rattle.stab_error_model.proofs.SiteFitLemmas.{errors-fit}
use Rattle.stab_error_model.proofs.LandingLemmas.{there_flips, LandsNowhere, Lands, AreLast, lands, errors-following}

-- X and Z are asked for, alone and beside I

x-asked : (asked : ErrorLetters) → Contains (letters_asked asked) X
x-asked letters_of.All = (0, omega arith, refl)
x-asked letters_of.XAndZ = (0, omega arith, refl)

z-asked : (asked : ErrorLetters) → Contains (letters_asked asked) Z
z-asked letters_of.All = (2, omega arith, refl)
z-asked letters_of.XAndZ = (1, omega arith, refl)

x-first : (asked : ErrorLetters) → Contains (pairs_asked asked) (X, I)
x-first letters_of.All = (3, omega arith, refl)
x-first letters_of.XAndZ = (2, omega arith, refl)

z-first : (asked : ErrorLetters) → Contains (pairs_asked asked) (Z, I)
z-first letters_of.All = (11, omega arith, refl)
z-first letters_of.XAndZ = (4, omega arith, refl)

x-second : (asked : ErrorLetters) → Contains (pairs_asked asked) (I, X)
x-second letters_of.All = (0, omega arith, refl)
x-second letters_of.XAndZ = (0, omega arith, refl)

z-second : (asked : ErrorLetters) → Contains (pairs_asked asked) (I, Z)
z-second letters_of.All = (2, omega arith, refl)
z-second letters_of.XAndZ = (1, omega arith, refl)

-- and each letter and each product but that of I and I, if all are

each-asked : (l : Letter) → (l ≡ I) ⊎ Contains (letters_asked letters_of.All) l
each-asked I = inl refl
each-asked X = inr (0, omega arith, refl)
each-asked Y = inr (1, omega arith, refl)
each-asked Z = inr (2, omega arith, refl)

pair-asked : (l m : Letter) → ((l ≡ I) × (m ≡ I)) ⊎ Contains (pairs_asked letters_of.All) (l, m)
pair-asked I I = inl (refl, refl)
pair-asked I X = inr (0, omega arith, refl)
pair-asked I Y = inr (1, omega arith, refl)
pair-asked I Z = inr (2, omega arith, refl)
pair-asked X I = inr (3, omega arith, refl)
pair-asked X X = inr (4, omega arith, refl)
pair-asked X Y = inr (5, omega arith, refl)
pair-asked X Z = inr (6, omega arith, refl)
pair-asked Y I = inr (7, omega arith, refl)
pair-asked Y X = inr (8, omega arith, refl)
pair-asked Y Y = inr (9, omega arith, refl)
pair-asked Y Z = inr (10, omega arith, refl)
pair-asked Z I = inr (11, omega arith, refl)
pair-asked Z X = inr (12, omega arith, refl)
pair-asked Z Y = inr (13, omega arith, refl)
pair-asked Z Z = inr (14, omega arith, refl)

-- the single errors of a product flip what its two letters do, if I flips nothing
product-together : (g : SingleError → Bool) (first second : Letter → SingleError) → g (first I) ≡ false → g (second I) ≡ false → (l m : Letter)
    → flips_together g (single_errors_in (product_at first second l m)) ≡ g (first l) ⊕ g (second m)
product-together g first second none_first none_second I m = parity-false (g (second m)) ∙ ap (λ b. b ⊕ g (second m)) (sym none_first)
product-together g first second none_first none_second X I = ap (λ b. g (first X) ⊕ b) (sym none_second)
product-together g first second none_first none_second X X = ap (λ b. g (first X) ⊕ b) (parity-false (g (second X)))
product-together g first second none_first none_second X Y = ap (λ b. g (first X) ⊕ b) (parity-false (g (second Y)))
product-together g first second none_first none_second X Z = ap (λ b. g (first X) ⊕ b) (parity-false (g (second Z)))
product-together g first second none_first none_second Y I = ap (λ b. g (first Y) ⊕ b) (sym none_second)
product-together g first second none_first none_second Y X = ap (λ b. g (first Y) ⊕ b) (parity-false (g (second X)))
product-together g first second none_first none_second Y Y = ap (λ b. g (first Y) ⊕ b) (parity-false (g (second Y)))
product-together g first second none_first none_second Y Z = ap (λ b. g (first Y) ⊕ b) (parity-false (g (second Z)))
product-together g first second none_first none_second Z I = ap (λ b. g (first Z) ⊕ b) (sym none_second)
product-together g first second none_first none_second Z X = ap (λ b. g (first Z) ⊕ b) (parity-false (g (second X)))
product-together g first second none_first none_second Z Y = ap (λ b. g (first Z) ⊕ b) (parity-false (g (second Y)))
product-together g first second none_first none_second Z Z = ap (λ b. g (first Z) ⊕ b) (parity-false (g (second Z)))

-- X and Z of a list of errors

parts-listed : (all : List Error) (at : Letter → SingleError) → Contains all (letter (at X)) → Contains all (letter (at Z)) → (l : Letter) → All (λ e. Contains all e) (each_letter (letter_parts l) at)
parts-listed all at x z I = All-nil (λ e. Contains all e)
parts-listed all at x z X = All-cons (λ e. Contains all e) (letter (at X)) [] x (All-nil (λ e. Contains all e))
parts-listed all at x z Y = All-cons (λ e. Contains all e) (letter (at X)) (letter (at Z) ∷ []) x (All-cons (λ e. Contains all e) (letter (at Z)) [] z (All-nil (λ e. Contains all e)))
parts-listed all at x z Z = All-cons (λ e. Contains all e) (letter (at Z)) [] z (All-nil (λ e. Contains all e))

module _ (n D : ℕ) (xs : List Step) (Is : ℕ → Type 0) where
  abbrev together : ℕ → List SingleError → Bool
  together i fs = flips_together (there_flips n D xs i) fs

  none-there : (i u : ℕ) (s : Site) → s.qubit < n → there_flips n D xs i (single_error_on u s I) ≡ false
  none-there i u s lt = none-flips n D i s.qubit (drop (single_error_on u s I).before xs) lt

  parts-together : (i u : ℕ) (s : Site) → s.qubit < n → (l : Letter) → there_flips n D xs i (single_error_on u s l) ≡ together i (flat_map single_errors_in (each_letter (letter_parts l) (single_error_on u s)))
  parts-together i u s lt I = none-there i u s lt
  parts-together i u s lt X = sym (parity-false (there_flips n D xs i (single_error_on u s X)))
  parts-together i u s lt Y =
      y-flips n D i s.qubit (drop (single_error_on u s Y).before xs) lt ∙ ap (λ b. there_flips n D xs i (single_error_on u s X) ⊕ b) (sym (parity-false (there_flips n D xs i (single_error_on u s Z))))
  parts-together i u s lt Z = sym (parity-false (there_flips n D xs i (single_error_on u s Z)))

  module _ (t m : ℕ) (k : Letter) (p : ℕ) (ys : List Step) where
    -- one error of all letters, or nothing
    abbrev pub OneError : Type 0
    OneError =
        LandsNowhere n D Is k p ys
        ⊎ ((e : Error) × Contains (errors_from letters_of.All t m ys) e × ((i : ℕ) → Is i → parity_flips n D i k p ys ≡ together i (single_errors_in e)))

    pub one-error : Lands n D xs Is t m k p ys → OneError
    one-error (inl none) = inl none
    one-error (inr (inl on)) = by_letter (each-asked on.image)
      where
        by_letter : (on.image ≡ I) ⊎ Contains (letters_asked letters_of.All) on.image → OneError
        by_letter (inl e) = inl (λ i is. on.flips i is ∙ ap (λ l. there_flips n D xs i (single_error_on on.step on.site l)) e ∙ none-there i on.step on.site on.inside)
        by_letter (inr has) = inr (letter (single_error_on on.step on.site on.image), on.listed letters_of.All on.image has, λ i is. on.flips i is ∙ sym (parity-false (there_flips n D xs i (single_error_on on.step on.site on.image))))
    one-error (inr (inr on)) = by_letters (pair-asked on.image on.other)
      where
        by_letters : ((on.image ≡ I) × (on.other ≡ I)) ⊎ Contains (pairs_asked letters_of.All) (on.image, on.other) → OneError
        by_letters (inl e) =
            inl (λ i is.
            on.flips i is
            ∙ (λ j.
            (ap (λ l. there_flips n D xs i (single_error_on on.step on.first l)) e.0 ∙ none-there i on.step on.first on.first_inside) j
            ⊕ (ap (λ l. there_flips n D xs i (single_error_on on.step on.second l)) e.1 ∙ none-there i on.step on.second on.second_inside) j))
        by_letters (inr has) = inr (
          product_at (single_error_on on.step on.first) (single_error_on on.step on.second) on.image on.other,
          on.listed letters_of.All (on.image, on.other) has,
          λ i is.
              on.flips i is
              ∙ sym (product-together (there_flips n D xs i) (single_error_on on.step on.first) (single_error_on on.step on.second) (none-there i on.step on.first on.first_inside)
              (none-there i on.step on.second on.second_inside) on.image on.other),
        )

    -- errors of some letters
    abbrev pub SomeErrors : ErrorLetters → Type 0
    SomeErrors asked =
        (errors : List Error) × All (λ e. Contains (errors_from asked t m ys) e) errors × ((i : ℕ) → Is i → parity_flips n D i k p ys ≡ together i (flat_map single_errors_in errors))

    pub some-errors : (asked : ErrorLetters) → Lands n D xs Is t m k p ys → SomeErrors asked
    some-errors asked (inl none) = ([], All-nil (λ e. Contains (errors_from asked t m ys) e), none)
    some-errors asked (inr (inl on)) = (
      each_letter (letter_parts on.image) (single_error_on on.step on.site),
      parts-listed (errors_from asked t m ys) (single_error_on on.step on.site) (on.listed asked X (x-asked asked)) (on.listed asked Z (z-asked asked)) on.image,
      λ i is. on.flips i is ∙ parts-together i on.step on.site on.inside on.image,
    )
    some-errors asked (inr (inr on)) =
        let first : List Error = each_letter (letter_parts on.image) (single_error_on on.step on.first) in
        let second : List Error = each_letter (letter_parts on.other) (single_error_on on.step on.second) in (
          first ++ second,
          All-append (λ e. Contains (errors_from asked t m ys) e) first second
              (parts-listed (errors_from asked t m ys) (single_error_on on.step on.first) (on.listed asked (X, I) (x-first asked)) (on.listed asked (Z, I) (z-first asked)) on.image)
              (parts-listed (errors_from asked t m ys) (single_error_on on.step on.second) (on.listed asked (I, X) (x-second asked)) (on.listed asked (I, Z) (z-second asked)) on.other),
          λ i is.
              on.flips i is
              ∙ (λ j. parts-together i on.step on.first on.first_inside on.image j ⊕ parts-together i on.step on.second on.second_inside on.other j)
              ∙ sym (together-append (there_flips n D xs i) (flat_map single_errors_in first) (flat_map single_errors_in second))
              ∙ ap (together i) (sym (flat_map-append single_errors_in first second)),
        )

-- by runs

module _ (n : ℕ) (items : Items) (fits : All (StepFits n) (unroll items)) (found : DeterministicParities) (sites : SitesFlipDeterministicParities) (adds : SingleErrorsAdd) where
  abbrev steps : List Step
  steps = unroll items

  abbrev all_detectors : ℕ
  all_detectors = detectors_of steps

  abbrev Is : ℕ → Type 0
  Is i = (i < bits_in items) × IsDeterministic n items i

  abbrev back_from : ℕ → List Step
  back_from k = drop k steps

  whole : (i : ℕ) → Is i → parity_deterministic n all_detectors i steps ≡ true
  whole i is = (found n (observables_of items) steps i fits is.0).1 is.1

  -- the steps after a single error

  last-steps : (k : ℕ) → k ≤ length steps → AreLast n all_detectors steps Is (0 + length (take k steps)) (back_from k)
  last-steps k le =
      let parts = take-append-drop k steps in
      let long : length (take k steps) ≡ k = length-take-le k steps le in
      let there : 0 + length (take k steps) ≡ k = omega (arith, long) in
      let all : detectors_of (take k steps ++ drop k steps) ≤ all_detectors = subst (λ ys. detectors_of ys ≤ all_detectors) (sym parts) (omega arith) in
      record {
        there = ap (λ j. drop j steps) there;
        few = omega (arith, all, count-following (take k steps) (drop k steps));
        fits = All-drop (StepFits n) k steps fits;
        preserved = λ i is.
            preserved-last n all_detectors i (take k steps) (drop k steps) all
            (subst (λ ys. parity_preserved n all_detectors i ys ≡ true) (sym parts) (and-left (parity_preserved n all_detectors i steps) (diagonal (parity_region n all_detectors i steps).string.letters) (whole i is)));
      }

  landed : (f : SingleError) → SingleErrorFits n steps f → Lands n all_detectors steps Is (0 + length (take f.before steps)) (0 + records_of (take f.before steps)) f.letter f.qubit (back_from f.before)
  landed f fit =
      lands n all_detectors steps Is (0 + length (take f.before steps)) (0 + records_of (take f.before steps)) f.letter f.qubit fit.qubit (back_from f.before) (last-steps f.before fit.before)

  is-listed : (asked : ErrorLetters) (k : ℕ) (e : Error) → Contains (errors_from asked (0 + length (take k steps)) (0 + records_of (take k steps)) (back_from k)) e → Contains (errors_of true asked items) e
  is-listed asked k e has =
      subst (λ ys. Contains (errors_from asked 0 0 ys) e) (take-append-drop k steps) (errors-following asked 0 0 (take k steps) (back_from k) e has)

  -- what single errors flip together by runs is what they flip by the pass

  by-pass : (fs : List SingleError) → All (SingleErrorFits n steps) fs → (i : ℕ) → Is i → (coins : ℕ → Bool)
      → flips_together (λ f. flips n items coins f i) fs ≡ flips_together (there_flips n all_detectors steps i) fs
  by-pass [] fit i is coins = refl
  by-pass (f ∷ fs) fit i is coins =
      let here = All-head (SingleErrorFits n steps) f fs fit in
      (λ j. sites n items i f fits is.0 here.qubit (whole i is) coins j ⊕ by-pass fs (All-tail (SingleErrorFits n steps) f fs fit) i is coins j)

  pub flip-by-pass : (fs : List SingleError) → All (SingleErrorFits n steps) fs → (i : ℕ) → Is i → (coins : ℕ → Bool)
      → flip_together n items coins fs i ≡ flips_together (there_flips n all_detectors steps i) fs
  flip-by-pass fs fit i is coins = adds n items i fs fits is.0 fit is.1 coins ∙ by-pass fs fit i is coins

  error-fits : (asked : ErrorLetters) (e : Error) → Contains (errors_of true asked items) e → All (SingleErrorFits n steps) (single_errors_in e)
  error-fits asked e has = All-contains (Fits n items) (errors_of true asked items) e (errors-fit n items true asked fits) has

  some-fit : (asked : ErrorLetters) (errors : List Error) → All (λ e. Contains (errors_of true asked items) e) errors → All (SingleErrorFits n steps) (flat_map single_errors_in errors)
  some-fit asked [] are = All-nil (SingleErrorFits n steps)
  some-fit asked (e ∷ es) are =
      All-append (SingleErrorFits n steps) (single_errors_in e) (flat_map single_errors_in es) (error-fits asked e (All-head (λ x. Contains (errors_of true asked items) x) e es are))
      (some-fit asked es (All-tail (λ x. Contains (errors_of true asked items) x) e es are))

  one-single_error : (f : SingleError) → SingleErrorFits n steps f → All (SingleErrorFits n steps) (f ∷ [])
  one-single_error f fit = All-cons (SingleErrorFits n steps) f [] fit (All-nil (SingleErrorFits n steps))

  -- one letter
  pub letter-is : (f : SingleError) → SingleErrorFits n steps f
      → FlipAlike n items (f ∷ []) [] ⊎ ((e : Error) × Contains (errors_of true letters_of.All items) e × FlipAlike n items (f ∷ []) (single_errors_in e))
  letter-is f fit =
      by_error
      (one-error n all_detectors steps Is (0 + length (take f.before steps)) (0 + records_of (take f.before steps)) f.letter f.qubit (back_from f.before) (landed f fit))
    where
      alone : (i : ℕ) → Is i → (coins : ℕ → Bool) → flip_together n items coins (f ∷ []) i ≡ there_flips n all_detectors steps i f
      alone i is coins = flip-by-pass (f ∷ []) (one-single_error f fit) i is coins ∙ parity-false (there_flips n all_detectors steps i f)

      by_error : OneError n all_detectors steps Is (0 + length (take f.before steps)) (0 + records_of (take f.before steps)) f.letter f.qubit (back_from f.before)
          → FlipAlike n items (f ∷ []) [] ⊎ ((e : Error) × Contains (errors_of true letters_of.All items) e × FlipAlike n items (f ∷ []) (single_errors_in e))
      by_error (inl none) =
          inl (λ i coins lt same. alone i (lt, same) coins ∙ none i (lt, same) ∙ sym (flip-by-pass [] (All-nil (SingleErrorFits n steps)) i (lt, same) coins))
      by_error (inr found_one) =
          let has = is-listed letters_of.All f.before found_one.0 found_one.1 in
          inr (
            found_one.0,
            has,
            λ i coins lt same.
                alone i (lt, same) coins ∙ found_one.2 i (lt, same) ∙ sym (flip-by-pass (single_errors_in found_one.0) (error-fits letters_of.All found_one.0 has) i (lt, same) coins),
          )

  -- letters, one after another

  abbrev Listed : ErrorLetters → List Error → Type 0
  Listed asked errors = All (λ e. Contains (errors_of true asked items) e) errors

  strings-found : (asked : ErrorLetters) (fs : List SingleError) → All (SingleErrorFits n steps) fs
      → (errors : List Error) × Listed asked errors
      × ((i : ℕ) → Is i → flips_together (there_flips n all_detectors steps i) fs ≡ flips_together (there_flips n all_detectors steps i) (flat_map single_errors_in errors))
  strings-found asked [] fit = ([], All-nil (λ e. Contains (errors_of true asked items) e), λ i is. refl)
  strings-found asked (f ∷ fs) fit =
      let t : ℕ = 0 + length (take f.before steps) in
      let m : ℕ = 0 + records_of (take f.before steps) in
      let here = some-errors n all_detectors steps Is t m f.letter f.qubit (back_from f.before) asked (landed f (All-head (SingleErrorFits n steps) f fs fit)) in
      let later = strings-found asked fs (All-tail (SingleErrorFits n steps) f fs fit) in (
        here.0 ++ later.0,
        All-append (λ e. Contains (errors_of true asked items) e) here.0 later.0
            (All-weaker (λ e. Contains (errors_from asked t m (back_from f.before)) e) (λ e. Contains (errors_of true asked items) e) (λ e has. is-listed asked f.before e has) here.0 here.1) later.1,
        λ i is.
            (λ j. here.2 i is j ⊕ later.2 i is j)
            ∙ sym (together-append (there_flips n all_detectors steps i) (flat_map single_errors_in here.0) (flat_map single_errors_in later.0))
            ∙ ap (flips_together (there_flips n all_detectors steps i)) (sym (flat_map-append single_errors_in here.0 later.0)),
      )

  pub string-is : (asked : ErrorLetters) (fs : List SingleError) → All (SingleErrorFits n steps) fs
      → (errors : List Error) × Listed asked errors × FlipAlike n items fs (flat_map single_errors_in errors)
  string-is asked fs fit =
      let there = strings-found asked fs fit in (
        there.0,
        there.1,
        λ i coins lt same.
            flip-by-pass fs fit i (lt, same) coins ∙ there.2 i (lt, same) ∙ sym (flip-by-pass (flat_map single_errors_in there.0) (some-fit asked there.0 there.1) i (lt, same) coins),
      )
