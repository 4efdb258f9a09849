-- Landings: a letter anywhere flips what letters of errors everywhere flip, at the next step on its qubit that has some.
use Rattle.stab_error_model.proofs.Names.{◌≡◌, ℕ, ◌+◌, ◌≤◌, ◌<◌, ◌⊎◌, inl, inr, refl, sym, ap, ◌∙◌, subst, Bool, true, false, List, [], ◌∷◌, ◌++◌, map, length, drop, arith, All, Contains, ◌==◌, PairGate, ◌≢◌, cases_eq, eqb-true, drop-drop, get_or-map, length-map, All-head, All-tail, Contains-append_left, Contains-append_right, Letter, I, ◌⊕◌, letters_anticommute, Gate, letter_image, Factor, is_on, Step, one, two, controlled, collapse, product, detector, observable, makes, records_of, detectors_of, StepFits, SingleError, Site, in_front, following, single_error_on, parity_preserved, parity_flips, first_image, second_image, end-flips, one-flips, one-other, first-flips, second-flips, pair-other, controlled-passes, detector-passes, observable-passes, collapse-other, product-other, unrecorded-passes, reset-passes, reset-stops, preserved-following, count-least, Error, letter, letters_asked, pairs_asked, each_letter, each_product, product_at, wrong_product, errors_at, errors_from, ErrorLetters, flat_map}
use Rattle.std.specs.Prelude.{◌||◌}

-- lists of errors

contains-letter : (ls : List Letter) (at : Letter → SingleError) (l : Letter) → Contains ls l → Contains (each_letter ls at) (letter (at l))
contains-letter ls at l has =
    let f : Letter → Error = λ k. letter (at k) in
    (has.0, omega (arith, has.1, length-map ls f), get_or-map f ls has.0 l (letter (at l)) has.1 ∙ ap f has.2)

contains-product : (ps : List (Letter × Letter)) (first second : Letter → SingleError) (p : Letter × Letter) → Contains ps p → Contains (map (λ r. product_at first second r.0 r.1) ps) (product_at first second p.0 p.1)
contains-product ps first second p has =
    let f : Letter × Letter → Error = λ r. product_at first second r.0 r.1 in
    (has.0, omega (arith, has.1, length-map ps f), get_or-map f ps has.0 p (f p) has.1 ∙ ap f has.2)

contains-factor : (ls : List Letter) (t q : ℕ) (factors : List Factor) (l : Letter) → is_on q factors ≡ true → Contains ls l
    → Contains (flat_map (λ f. each_letter ls (single_error_on t (in_front f.qubit))) factors) (letter (single_error_on t (in_front q) l))
contains-factor ls t q [] l on has = cc
contains-factor ls t q (f ∷ fs) l on has = by_first (f.qubit == q) refl (λ rest. contains-factor ls t q fs l rest has)
  where
    here : List Error
    here = each_letter ls (single_error_on t (in_front f.qubit))

    later : List Error
    later = flat_map (λ g. each_letter ls (single_error_on t (in_front g.qubit))) fs

    by_first : (b : Bool) → (f.qubit == q) ≡ b → (is_on q fs ≡ true → Contains later (letter (single_error_on t (in_front q) l))) → Contains (here ++ later) (letter (single_error_on t (in_front q) l))
    by_first true e rest =
        Contains-append_left here later (letter (single_error_on t (in_front q) l))
        (subst (λ p. Contains here (letter (single_error_on t (in_front p) l))) (eqb-true f.qubit q e) (contains-letter ls (single_error_on t (in_front f.qubit)) l has))
    by_first false e rest = Contains-append_right here later (letter (single_error_on t (in_front q) l)) (rest (sym (ap (λ b. b || is_on q fs) e) ∙ on))

-- errors after some steps are among those of all
pub errors-following : (asked : ErrorLetters) (t m : ℕ) (front ys : List Step) (e : Error) → Contains (errors_from asked (t + length front) (m + records_of front) ys) e → Contains (errors_from asked t m (front ++ ys)) e
errors-following asked t m [] ys e has =
    let steps : t + 0 ≡ t = omega arith in
    let records : m + 0 ≡ m = omega arith in
    subst (λ u. Contains (errors_from asked u m ys) e) steps (subst (λ k. Contains (errors_from asked (t + 0) k ys) e) records has)
errors-following asked t m (x ∷ xs) ys e has =
    let steps : t + length (x ∷ xs) ≡ (t + 1) + length xs = omega arith in
    let records : m + records_of (x ∷ xs) ≡ (m + makes x) + records_of xs = omega arith in
    Contains-append_right (errors_at asked t m x) (errors_from asked (t + 1) (m + makes x) (xs ++ ys)) e
    (errors-following asked (t + 1) (m + makes x) xs ys e
    (subst (λ u. Contains (errors_from asked u ((m + makes x) + records_of xs) ys) e) steps
    (subst (λ k. Contains (errors_from asked (t + length (x ∷ xs)) k ys) e) records has)))

-- what a letter at a site of all steps flips of a parity, by the pass backwards
abbrev pub there_flips : (n D : ℕ) → List Step → (i : ℕ) → SingleError → Bool
there_flips n D xs i f = parity_flips n D i f.letter f.qubit (drop f.before xs)

-- of these parities, the letter flips none
abbrev pub LandsNowhere : (n D : ℕ) → (ℕ → Type 0) → Letter → (qubit : ℕ) → List Step → Type 0
LandsNowhere n D Is k p ys = (i : ℕ) → Is i → parity_flips n D i k p ys ≡ false

-- it flips what a letter at a site flips, and each letter there is an error, if it is asked for
pub record LandsOnOne (n D : ℕ) (xs : List Step) (Is : ℕ → Type 0) (t m : ℕ) (k : Letter) (p : ℕ) (ys : List Step) : Type 0 where
  pub step : ℕ
  pub site : Site
  pub image : Letter
  pub inside : site.qubit < n
  pub listed : (asked : ErrorLetters) (l : Letter) → Contains (letters_asked asked) l → Contains (errors_from asked t m ys) (letter (single_error_on step site l))
  pub flips : (i : ℕ) → Is i → parity_flips n D i k p ys ≡ there_flips n D xs i (single_error_on step site image)

-- it flips what letters at two sites flip, and each product there is an error, if it is asked for
pub record LandsOnTwo (n D : ℕ) (xs : List Step) (Is : ℕ → Type 0) (t m : ℕ) (k : Letter) (p : ℕ) (ys : List Step) : Type 0 where
  pub step : ℕ
  pub first : Site
  pub second : Site
  pub image : Letter
  pub other : Letter
  pub first_inside : first.qubit < n
  pub second_inside : second.qubit < n
  pub listed : (asked : ErrorLetters) (r : Letter × Letter) → Contains (pairs_asked asked) r → Contains (errors_from asked t m ys) (product_at (single_error_on step first) (single_error_on step second) r.0 r.1)
  pub flips : (i : ℕ) → Is i → parity_flips n D i k p ys ≡ there_flips n D xs i (single_error_on step first image) ⊕ there_flips n D xs i (single_error_on step second other)

abbrev pub Lands : (n D : ℕ) → List Step → (ℕ → Type 0) → (t m : ℕ) → Letter → (qubit : ℕ) → List Step → Type 0
Lands n D xs Is t m k p ys = LandsNowhere n D Is k p ys ⊎ (LandsOnOne n D xs Is t m k p ys ⊎ LandsOnTwo n D xs Is t m k p ys)

-- last steps, which keep these parities
pub record AreLast (n D : ℕ) (xs : List Step) (Is : ℕ → Type 0) (t : ℕ) (ys : List Step) : Type 0 where
  pub there : drop t xs ≡ ys
  pub few : detectors_of ys ≤ D
  pub fits : All (StepFits n) ys
  pub preserved : (i : ℕ) → Is i → parity_preserved n D i ys ≡ true

module _ (n D : ℕ) (xs : List Step) (Is : ℕ → Type 0) where
  last-next : (t : ℕ) (x : Step) (rest : List Step) → AreLast n D xs Is t (x ∷ rest) → AreLast n D xs Is (t + 1) rest
  last-next t x rest are = record {
    there = sym (drop-drop 1 t xs) ∙ ap (drop 1) are.there;
    few = omega (arith, are.few, count-least x rest);
    fits = All-tail (StepFits n) x rest are.fits;
    preserved = λ i is. preserved-following n D i x rest are.few (are.preserved i is);
  }

  module _ (t m : ℕ) (k : Letter) (p : ℕ) (lt : p < n) (x : Step) (rest : List Step) (are : AreLast n D xs Is t (x ∷ rest)) where
    abbrev Here : Type 0
    Here = Lands n D xs Is t m k p (x ∷ rest)

    abbrev Later : Type 0
    Later = Lands n D xs Is (t + 1) (m + makes x) k p rest

    abbrev Same : Type 0
    Same = (i : ℕ) → Is i → parity_flips n D i k p (x ∷ rest) ≡ parity_flips n D i k p rest

    -- a step that the letter passes
    passed : Same → Later → Here
    passed same (inl none) = inl (λ i is. same i is ∙ none i is)
    passed same (inr (inl on)) = inr (inl (record {
      step = on.step;
      site = on.site;
      image = on.image;
      inside = on.inside;
      listed = λ asked l has. Contains-append_right (errors_at asked t m x) (errors_from asked (t + 1) (m + makes x) rest) (letter (single_error_on on.step on.site l)) (on.listed asked l has);
      flips = λ i is. same i is ∙ on.flips i is;
    }))
    passed same (inr (inr on)) = inr (inr (record {
      step = on.step;
      first = on.first;
      second = on.second;
      image = on.image;
      other = on.other;
      first_inside = on.first_inside;
      second_inside = on.second_inside;
      listed = λ asked r has.
          Contains-append_right (errors_at asked t m x) (errors_from asked (t + 1) (m + makes x) rest) (product_at (single_error_on on.step on.first) (single_error_on on.step on.second) r.0 r.1)
          (on.listed asked r has);
      flips = λ i is. same i is ∙ on.flips i is;
    }))

    -- one that has errors at a site
    stays : (site : Site) (image : Letter) → site.qubit < n → ((asked : ErrorLetters) (l : Letter) → Contains (letters_asked asked) l → Contains (errors_at asked t m x) (letter (single_error_on t site l)))
        → ((i : ℕ) → Is i → parity_flips n D i k p (x ∷ rest) ≡ there_flips n D xs i (single_error_on t site image)) → Here
    stays site image inside listed flips = inr (inl (record {
      step = t;
      site = site;
      image = image;
      inside = inside;
      listed = λ asked l has. Contains-append_left (errors_at asked t m x) (errors_from asked (t + 1) (m + makes x) rest) (letter (single_error_on t site l)) (listed asked l has);
      flips = flips;
    }))

    front-is : (l : Letter) (q i : ℕ) → parity_flips n D i l q (x ∷ rest) ≡ there_flips n D xs i (single_error_on t (in_front q) l)
    front-is l q i = ap (parity_flips n D i l q) (sym are.there)

    following-is : (l : Letter) (q i : ℕ) → parity_flips n D i l q rest ≡ there_flips n D xs i (single_error_on t (following q) l)
    following-is l q i = ap (parity_flips n D i l q) (sym (last-next t x rest are).there)

  -- at each step

  module _ (t m : ℕ) (k : Letter) (p : ℕ) (lt : p < n) (rest : List Step) where
    at-one : (g : Gate) (q : ℕ) → AreLast n D xs Is t (one g q ∷ rest) → (p ≡ q) ⊎ (p ≡ q → ⊥) → Lands n D xs Is (t + 1) (m + 0) k p rest → Lands n D xs Is t m k p (one g q ∷ rest)
    at-one g q are (inl e) later =
        stays t m k p lt (one g q) rest are (following p) (letter_image g k).letter lt
        (λ asked l has. subst (λ r. Contains (errors_at asked t m (one g q)) (letter (single_error_on t (following r) l))) (sym e) (contains-letter (letters_asked asked) (single_error_on t (following q)) l has))
        (λ i is.
        ap (λ r. parity_flips n D i k p (one g r ∷ rest)) (sym e)
        ∙ one-flips n D i rest g k p lt (subst (λ r. detectors_of (one g r ∷ rest) ≤ D) (sym e) are.few)
        ∙ following-is t m k p lt (one g q) rest are (letter_image g k).letter p i)
    at-one g q are (inr distinct) later = passed t m k p lt (one g q) rest are (λ i is. one-other n D i rest g k q p lt distinct are.few) later

    at-collapse : (l : Letter) (q : ℕ) (recorded inverted resets : Bool) → AreLast n D xs Is t (collapse l q recorded inverted resets ∷ rest) → (p ≡ q) ⊎ (p ≡ q → ⊥)
        → Lands n D xs Is (t + 1) (m + makes (collapse l q recorded inverted resets)) k p rest → Lands n D xs Is t m k p (collapse l q recorded inverted resets ∷ rest)
    at-collapse l q recorded inverted resets are (inr distinct) later =
        passed t m k p lt (collapse l q recorded inverted resets) rest are (λ i is. collapse-other n D i rest l q recorded inverted resets k p lt distinct are.few) later
    at-collapse l q true inverted resets are (inl e) later =
        stays t m k p lt (collapse l q true inverted resets) rest are (in_front p) k lt
        (λ asked j has. subst (λ r. Contains (errors_at asked t m (collapse l q true inverted resets)) (letter (single_error_on t (in_front r) j))) (sym e) (measured asked j resets has))
        (λ i is. front-is t m k p lt (collapse l q true inverted resets) rest are k p i)
      where
        measured : (asked : ErrorLetters) (j : Letter) (resets : Bool) → Contains (letters_asked asked) j → Contains (errors_at asked t m (collapse l q true inverted resets)) (letter (single_error_on t (in_front q) j))
        measured asked j true has = Contains-append_left (each_letter (letters_asked asked) (single_error_on t (in_front q))) _ (letter (single_error_on t (in_front q) j)) (contains-letter (letters_asked asked) (single_error_on t (in_front q)) j has)
        measured asked j false has = Contains-append_left (each_letter (letters_asked asked) (single_error_on t (in_front q))) _ (letter (single_error_on t (in_front q) j)) (contains-letter (letters_asked asked) (single_error_on t (in_front q)) j has)
    at-collapse l q false inverted false are (inl e) later =
        passed t m k p lt (collapse l q false inverted false) rest are
        (λ i is.
        ap (λ r. parity_flips n D i k p (collapse l r false inverted false ∷ rest)) (sym e)
        ∙ unrecorded-passes n D i rest l p lt inverted k (subst (λ r. detectors_of (collapse l r false inverted false ∷ rest) ≤ D) (sym e) are.few)) later
    at-collapse l q false inverted true are (inl e) later = by_letter (letters_anticommute k l) refl
      where
        by_letter : (b : Bool) → letters_anticommute k l ≡ b → Lands n D xs Is t m k p (collapse l q false inverted true ∷ rest)
        by_letter false beside =
            passed t m k p lt (collapse l q false inverted true) rest are
            (λ i is.
            ap (λ r. parity_flips n D i k p (collapse l r false inverted true ∷ rest)) (sym e)
            ∙ reset-passes n D i rest l p lt inverted k beside (subst (λ r. detectors_of (collapse l r false inverted true ∷ rest) ≤ D) (sym e) are.few)) later
        by_letter true other =
            inl (λ i is.
            ap (λ r. parity_flips n D i k p (collapse l r false inverted true ∷ rest)) (sym e)
            ∙ reset-stops n D i rest l p lt inverted k other (subst (λ r. detectors_of (collapse l r false inverted true ∷ rest) ≤ D) (sym e) are.few)
            (subst (λ r. parity_preserved n D i (collapse l r false inverted true ∷ rest) ≡ true) (sym e) (are.preserved i is)))

    at-product : (factors : List Factor) (inverted : Bool) → AreLast n D xs Is t (product factors inverted ∷ rest) → (b : Bool) → is_on p factors ≡ b
        → Lands n D xs Is (t + 1) (m + 1) k p rest → Lands n D xs Is t m k p (product factors inverted ∷ rest)
    at-product factors inverted are true on later =
        stays t m k p lt (product factors inverted) rest are (in_front p) k lt
        (λ asked l has.
        Contains-append_left (flat_map (λ f. each_letter (letters_asked asked) (single_error_on t (in_front f.qubit))) factors) (wrong_product t m factors) (letter (single_error_on t (in_front p) l))
        (contains-factor (letters_asked asked) t p factors l on has))
        (λ i is. front-is t m k p lt (product factors inverted) rest are k p i)
    at-product factors inverted are false off later =
        passed t m k p lt (product factors inverted) rest are (λ i is. product-other n D i rest factors inverted k p lt off are.few) later

    at-two : (g : PairGate) (a b : ℕ) → AreLast n D xs Is t (two g a b ∷ rest) → (p ≡ a) ⊎ (p ≡ a → ⊥) → (p ≡ b) ⊎ (p ≡ b → ⊥) → Lands n D xs Is (t + 1) (m + 0) k p rest
        → Lands n D xs Is t m k p (two g a b ∷ rest)
    at-two g a b are on_a on_b later = by_site on_a on_b
      where
        fit : (a < n) × (b < n) × (b ≢ a)
        fit = All-head (StepFits n) (two g a b) rest are.fits

        following-are : (l j : Letter) (i : ℕ) → parity_flips n D i l a rest ⊕ parity_flips n D i j b rest ≡ there_flips n D xs i (single_error_on t (following a) l) ⊕ there_flips n D xs i (single_error_on t (following b) j)
        following-are l j i = (λ u. following-is t m k p lt (two g a b) rest are l a i u ⊕ following-is t m k p lt (two g a b) rest are j b i u)

        on-both : (image other : Letter) → ((i : ℕ) → Is i → parity_flips n D i k p (two g a b ∷ rest) ≡ parity_flips n D i image a rest ⊕ parity_flips n D i other b rest) → Lands n D xs Is t m k p (two g a b ∷ rest)
        on-both image other flips = inr (inr (record {
          step = t;
          first = following a;
          second = following b;
          image = image;
          other = other;
          first_inside = fit.0;
          second_inside = fit.1;
          listed = λ asked r has.
              Contains-append_left (each_product asked (single_error_on t (following a)) (single_error_on t (following b))) (errors_from asked (t + 1) (m + 0) rest) (product_at (single_error_on t (following a)) (single_error_on t (following b)) r.0 r.1)
              (contains-product (pairs_asked asked) (single_error_on t (following a)) (single_error_on t (following b)) r has);
          flips = λ i is. flips i is ∙ following-are image other i;
        }))

        by_site : (p ≡ a) ⊎ (p ≡ a → ⊥) → (p ≡ b) ⊎ (p ≡ b → ⊥) → Lands n D xs Is t m k p (two g a b ∷ rest)
        by_site (inl e) other =
            on-both (first_image g k I) (second_image g k I)
            (λ i is. ap (λ r. parity_flips n D i k r (two g a b ∷ rest)) e ∙ first-flips n D i rest g a b fit.0 fit.1 fit.2 are.few k)
        by_site (inr off) (inl e) =
            on-both (first_image g I k) (second_image g I k)
            (λ i is. ap (λ r. parity_flips n D i k r (two g a b ∷ rest)) e ∙ second-flips n D i rest g a b fit.0 fit.1 fit.2 are.few k)
        by_site (inr off_a) (inr off_b) =
            passed t m k p lt (two g a b) rest are (λ i is. pair-other n D i rest g a b fit.0 fit.1 fit.2 are.few k p lt off_a off_b) later

  -- so it lands
  pub lands : (t m : ℕ) (k : Letter) (p : ℕ) → p < n → (ys : List Step) → AreLast n D xs Is t ys → Lands n D xs Is t m k p ys
  lands t m k p lt [] are = inl (λ i is. end-flips n D i k p)
  lands t m k p lt (one g q ∷ rest) are = at-one t m k p lt rest g q are (cases_eq p q) (lands (t + 1) (m + 0) k p lt rest (last-next t (one g q) rest are))
  lands t m k p lt (two g a b ∷ rest) are = at-two t m k p lt rest g a b are (cases_eq p a) (cases_eq p b) (lands (t + 1) (m + 0) k p lt rest (last-next t (two g a b) rest are))
  lands t m k p lt (controlled l j q ∷ rest) are =
      passed t m k p lt (controlled l j q) rest are (λ i is. controlled-passes n D i rest l j q k p are.few) (lands (t + 1) (m + 0) k p lt rest (last-next t (controlled l j q) rest are))
  lands t m k p lt (collapse l q recorded inverted resets ∷ rest) are =
      at-collapse t m k p lt rest l q recorded inverted resets are (cases_eq p q)
      (lands (t + 1) (m + makes (collapse l q recorded inverted resets)) k p lt rest (last-next t (collapse l q recorded inverted resets) rest are))
  lands t m k p lt (product factors inverted ∷ rest) are =
      at-product t m k p lt rest factors inverted are (is_on p factors) refl (lands (t + 1) (m + 1) k p lt rest (last-next t (product factors inverted) rest are))
  lands t m k p lt (detector ks ∷ rest) are =
      passed t m k p lt (detector ks) rest are (λ i is. detector-passes n D i rest ks k p are.few) (lands (t + 1) (m + 0) k p lt rest (last-next t (detector ks) rest are))
  lands t m k p lt (observable j ks ∷ rest) are =
      passed t m k p lt (observable j ks) rest are (λ i is. observable-passes n D i rest j ks k p are.few) (lands (t + 1) (m + 0) k p lt rest (last-next t (observable j ks) rest are))
