-- Wrong records: the letters of one flip the bits that one more ! at the record flips.
use Rattle.stab_error_model.proofs.Names.{◌≡◌, ℕ, zero, suc, ◌+◌, ◌-◌, ◌≤◌, ◌<◌, refl, sym, ap, ◌∙◌, subst, Bool, true, false, not, ◌&&◌, List, [], ◌∷◌, ◌++◌, append_assoc, length, drop, arith, All, lt-ltb, le-ltb, if◌then◌else◌, drop-drop, drop-append_seam, length-append, All-nil, All-cons, All-head, All-tail, All-append, All-map, Letter, I, X, Y, Z, Axis, ◌⊕◌, letters_anticommute, parity-false, Factor, letter_of, names_twice, ControlledPair, Kind, Items, done, next, block, Step, one, two, controlled, collapse, product, detector, observable, makes, records_of, HasDistinctQubits, steps_of, controlled_step, measured, rounds, unroll, detectors_of, observables_of, StepFits, flip_of, and-left, SingleError, in_front, following, single_error_on, with_gates, bit, bits_in, IsDeterministic, flips, SingleErrorFits, flips_together, SingleErrorsAdd, DeterministicParities, DeterministicParityBits, SitesFlipDeterministicParities, parity_region, parity_preserved, parity_flips, parity_deterministic, diagonal, AreNegated, collapse-negated, product-negated, negated-front, preserved-last, count-following, named_there, wrong-measured, wrong-reset, wrong-product, fits-front, fits-back, Error, letter, letters, wrong_record, letters_asked, pairs_asked, each_letter, each_product, product_at, wrong_product, errors_at, errors_from, ErrorLetters, flat_map, inverted_once, with_inverted}
use Rattle.stab_instructions.specs.declared.axis.Axis.TheVariants as axis
use Rattle.stab_instructions.specs.declared.control.ControlledPair.TheVariants as pair
use Rattle.stab_instructions.specs.declared.operation.Kind.TheVariants as kind

-- what is measured with a record has a letter that flips it

axis-flips : (a : Axis) → letters_anticommute (flip_of (letter_of a)) (letter_of a) ≡ true
axis-flips axis.X = refl
axis-flips axis.Y = refl
axis-flips axis.Z = refl

abbrev pub IsFlippable : Step → Type 0
IsFlippable (collapse l q recorded inverted resets) = letters_anticommute (flip_of l) l ≡ true
IsFlippable (one g q) = Unit {0}
IsFlippable (two g a b) = Unit {0}
IsFlippable (controlled l k q) = Unit {0}
IsFlippable (product factors inverted) = Unit {0}
IsFlippable (detector ks) = Unit {0}
IsFlippable (observable j ks) = Unit {0}

pair-flippable : (a : Axis) (p : ControlledPair) → IsFlippable (controlled_step a p)
pair-flippable a (pair.Qubits p) = tt
pair-flippable a (pair.Record q k) = tt

steps-flippable : (k : Kind) → All IsFlippable (steps_of k)
steps-flippable (kind.Gate g qubits) = All-map IsFlippable (one g) qubits (λ k d less. tt)
steps-flippable (kind.Controlled a pairs) = All-map IsFlippable (controlled_step a) pairs (λ k d less. pair-flippable a _)
steps-flippable (kind.Swap pairs) = All-map IsFlippable _ pairs (λ k d less. tt)
steps-flippable (kind.Measure m targets) = All-map IsFlippable (measured m) targets (λ k d less. axis-flips m.axis)
steps-flippable (kind.Reset a qubits) = All-map IsFlippable _ qubits (λ k d less. axis-flips a)
steps-flippable (kind.MeasureProducts products) = All-map IsFlippable _ products (λ k d less. tt)
steps-flippable (kind.Detector located) = All-cons IsFlippable (detector located.1) [] tt (All-nil IsFlippable)
steps-flippable (kind.ObservableInclude j ks) = All-cons IsFlippable (observable j ks) [] tt (All-nil IsFlippable)
steps-flippable kind.Tick = All-nil IsFlippable
steps-flippable (kind.QubitCoords located) = All-nil IsFlippable
steps-flippable (kind.ShiftCoords coordinates) = All-nil IsFlippable

rounds-flippable : (n : ℕ) (xs : List Step) → All IsFlippable xs → All IsFlippable (rounds n xs)
rounds-flippable zero xs all = All-nil IsFlippable
rounds-flippable (suc n) xs all = All-append IsFlippable xs (rounds n xs) all (rounds-flippable n xs all)

pub all-flippable : (items : Items) → All IsFlippable (unroll items)
all-flippable done = All-nil IsFlippable
all-flippable (next op rest) = All-append IsFlippable (steps_of op.kind) (unroll rest) (steps-flippable op.kind) (all-flippable rest)
all-flippable (block count tag body rest) =
    All-append IsFlippable (rounds count (unroll body)) (unroll rest) (rounds-flippable count (unroll body) (all-flippable body)) (all-flippable rest)

-- the step of a record

records-following : (front : List Step) (x : Step) → records_of (front ++ x ∷ []) ≡ records_of front + makes x
records-following [] x = omega arith
records-following (y ∷ ys) x = omega (arith, records-following ys x)

inverted-at : (m : ℕ) (front : List Step) (x : Step) (rest : List Step) → m ≡ records_of front → makes x ≡ 1 → with_inverted m (front ++ x ∷ rest) ≡ front ++ inverted_once x ∷ rest
inverted-at m [] x rest e makes_one = ap (λ b. if b then inverted_once x ∷ rest else x ∷ with_inverted (m - makes x) rest) (lt-ltb m (makes x) (omega (arith, e, makes_one)))
inverted-at m (y ∷ ys) x rest e makes_one =
    ap (λ b. if b then inverted_once y ∷ (ys ++ x ∷ rest) else y ∷ with_inverted (m - makes y) (ys ++ x ∷ rest)) (le-ltb m (makes y) (omega (arith, e)))
    ∙ ap (λ zs. y ∷ zs) (inverted-at (m - makes y) ys x rest (omega (arith, e)) makes_one)

-- a bit that differs from a third as another does is the same
same-difference : (a b c d : Bool) → a ⊕ c ≡ d → b ≡ d ⊕ c → a ≡ b
same-difference a b c d e f = grind arith

module _ (n : ℕ) (items : Items) (fits : All (StepFits n) (unroll items)) (found : DeterministicParities) (bits : DeterministicParityBits) (sites : SitesFlipDeterministicParities)
    (adds : SingleErrorsAdd) where
  abbrev xs : List Step
  xs = unroll items

  abbrev D : ℕ
  D = detectors_of xs

  abbrev the_bit : (ℕ → Bool) → List Step → ℕ → Bool
  the_bit coins ys i = bit n (observables_of items) coins ys i

  -- of a wrong record whose single errors fit
  abbrev pub IsInverted : Error → Type 0
  IsInverted (letter f) = Unit {0}
  IsInverted (letters f g) = Unit {0}
  IsInverted (wrong_record m f back) =
      All (SingleErrorFits n xs) (f ∷ back) → (i : ℕ) → i < bits_in items → IsDeterministic n items i → (coins : ℕ → Bool) →
      the_bit coins (with_gates (f ∷ back) xs) i ≡ the_bit coins (with_inverted m xs) i

  -- where a step is
  record StandsAt (t m : ℕ) (front : List Step) (x : Step) (rest : List Step) : Type 0 where
    parts : xs ≡ front ++ x ∷ rest
    steps : t ≡ length front
    records : m ≡ records_of front

  module _ (t m : ℕ) (front : List Step) (x : Step) (rest : List Step) (at : StandsAt t m front x rest) where
    drop-here : drop t xs ≡ x ∷ rest
    drop-here = (λ j. drop (at.steps j) (at.parts j)) ∙ drop-append_seam front (x ∷ rest)

    drop-following : drop (t + 1) xs ≡ rest
    drop-following = sym (drop-drop 1 t xs) ∙ ap (drop 1) drop-here

    few : detectors_of (x ∷ rest) ≤ D
    few = subst (λ ys. detectors_of (x ∷ rest) ≤ detectors_of ys) (sym at.parts) (count-following front (x ∷ rest))

    module _ (i : ℕ) (lt : i < bits_in items) (same : IsDeterministic n items i) where
      abbrev named : Bool
      named = named_there n D i rest

      whole : parity_deterministic n D i xs ≡ true
      whole = (found n (observables_of items) xs i fits lt).1 same

      preserved : parity_preserved n D i (front ++ x ∷ rest) ≡ true
      preserved = subst (λ ys. parity_preserved n D i ys ≡ true) at.parts (and-left (parity_preserved n D i xs) (diagonal (parity_region n D i xs).string.letters) whole)

      preserved-there : parity_preserved n D i (x ∷ rest) ≡ true
      preserved-there = preserved-last n D i front (x ∷ rest) (subst (λ ys. detectors_of ys ≤ D) at.parts (omega arith)) preserved

      -- with one more ! the bit is flipped if the parity names the record
      inverted-bit : (y : Step) → StepFits n y → AreNegated n D i named (y ∷ rest) (x ∷ rest) → (coins : ℕ → Bool) → the_bit coins (front ++ y ∷ rest) i ≡ named ⊕ the_bit coins xs i
      inverted-bit y fit negated coins =
          let old : List Step = front ++ x ∷ rest in
          let new : List Step = front ++ y ∷ rest in
          let old_fits : All (StepFits n) old = subst (All (StepFits n)) at.parts fits in
          let a : AreNegated n D i named new old = negated-front n D i named (y ∷ rest) (x ∷ rest) negated front (subst (λ ys. detectors_of ys ≤ D) at.parts (omega arith)) preserved in
          let count : detectors_of new ≡ D = a.detectors ∙ ap detectors_of (sym at.parts) in
          let new_fits : All (StepFits n) new =
          All-append (StepFits n) front (y ∷ rest) (fits-front n front (x ∷ rest) old_fits)
          (All-cons (StepFits n) y rest fit (All-tail (StepFits n) x rest (fits-back n front (x ∷ rest) old_fits))) in
          let deterministic : parity_deterministic n D i new ≡ true =
          (λ j. a.preserved j && diagonal (a.region j).string.letters) ∙ ap (λ ys. parity_deterministic n D i ys) (sym at.parts) ∙ whole in
          bits n (observables_of items) new i new_fits (omega (arith, lt, count)) (subst (λ d. parity_deterministic n d i new ≡ true) (sym count) deterministic) coins
          ∙ ap (λ d. (parity_region n d i new).string.negative) count
          ∙ ap (λ r. r.string.negative) a.region
          ∙ ap (λ ys. named ⊕ (parity_region n D i ys).string.negative) (sym at.parts)
          ∙ ap (λ b. named ⊕ b) (sym (bits n (observables_of items) xs i fits lt whole coins))

      -- what a letter in front of the step flips, and one after it
      flips-front : (k : Letter) (q : ℕ) (coins : ℕ → Bool) → q < n → flips n items coins (single_error_on t (in_front q) k) i ≡ parity_flips n D i k q (x ∷ rest)
      flips-front k q coins less = sites n items i (single_error_on t (in_front q) k) fits lt less whole coins ∙ ap (parity_flips n D i k q) drop-here

      flips-following : (k : Letter) (q : ℕ) (coins : ℕ → Bool) → q < n → flips n items coins (single_error_on t (following q) k) i ≡ parity_flips n D i k q rest
      flips-following k q coins less = sites n items i (single_error_on t (following q) k) fits lt less whole coins ∙ ap (parity_flips n D i k q) drop-following

      -- so single errors that flip what names the record are one more !
      wrong-is : (fs : List SingleError) (y : Step) → All (SingleErrorFits n xs) fs → y ≡ inverted_once x → makes x ≡ 1 → StepFits n y → AreNegated n D i named (y ∷ rest) (x ∷ rest)
          → (coins : ℕ → Bool) → flips_together (λ f. flips n items coins f i) fs ≡ named → the_bit coins (with_gates fs xs) i ≡ the_bit coins (with_inverted m xs) i
      wrong-is fs y fit is makes_one y_fits negated coins flip =
          same-difference (the_bit coins (with_gates fs xs) i) (the_bit coins (with_inverted m xs) i) (the_bit coins xs i) named
          (adds n items i fs fits lt fit same coins ∙ flip)
          (ap (λ ys. the_bit coins ys i) (ap (with_inverted m) at.parts ∙ inverted-at m front x rest at.records makes_one ∙ ap (λ z. front ++ z ∷ rest) (sym is))
          ∙ inverted-bit y y_fits negated coins)

  -- letters and products are no records

  letters-plain : (ls : List Letter) (at : Letter → SingleError) → All IsInverted (each_letter ls at)
  letters-plain ls at = All-map IsInverted (λ l. letter (at l)) ls (λ k l less. tt)

  product-plain : (first second : Letter → SingleError) (l m : Letter) → IsInverted (product_at first second l m)
  product-plain first second I m = tt
  product-plain first second X I = tt
  product-plain first second X X = tt
  product-plain first second X Y = tt
  product-plain first second X Z = tt
  product-plain first second Y I = tt
  product-plain first second Y X = tt
  product-plain first second Y Y = tt
  product-plain first second Y Z = tt
  product-plain first second Z I = tt
  product-plain first second Z X = tt
  product-plain first second Z Y = tt
  product-plain first second Z Z = tt

  products-plain : (asked : ErrorLetters) (first second : Letter → SingleError) → All IsInverted (each_product asked first second)
  products-plain asked first second = All-map IsInverted (λ p. product_at first second p.0 p.1) (pairs_asked asked) (λ k p less. product-plain first second _ _)

  factors-plain : (ls : List Letter) (t : ℕ) (factors : List Factor) → All IsInverted (flat_map (λ f. each_letter ls (single_error_on t (in_front f.qubit))) factors)
  factors-plain ls t [] = All-nil IsInverted
  factors-plain ls t (f ∷ fs) =
      All-append IsInverted (each_letter ls (single_error_on t (in_front f.qubit))) (flat_map (λ g. each_letter ls (single_error_on t (in_front g.qubit))) fs)
      (letters-plain ls (single_error_on t (in_front f.qubit))) (factors-plain ls t fs)

  -- the wrong records at a step

  module _ (t m : ℕ) (front rest : List Step) where
    wrong-after : (l : Letter) (q : ℕ) (inverted : Bool) → StandsAt t m front (collapse l q true inverted false) rest → q < n → letters_anticommute (flip_of l) l ≡ true
        → IsInverted (wrong_record m (single_error_on t (in_front q) (flip_of l)) (single_error_on t (following q) (flip_of l) ∷ []))
    wrong-after l q inverted at less other fit i lt same coins =
        let x : Step = collapse l q true inverted false in
        let k : Letter = flip_of l in
        wrong-is t m front x rest at i lt same (single_error_on t (in_front q) k ∷ single_error_on t (following q) k ∷ []) (collapse l q true (not inverted) false) fit refl refl less
        (collapse-negated n D i rest l q inverted false (few t m front x rest at) (preserved-there t m front x rest at i lt same)) coins
        ((λ j.
        flips-front t m front x rest at i lt same k q coins less j
        ⊕ (parity-false (flips n items coins (single_error_on t (following q) k) i) ∙ flips-following t m front x rest at i lt same k q coins less) j)
        ∙ wrong-measured n D i rest l q less inverted other (few t m front x rest at))

    wrong-reset_too : (l : Letter) (q : ℕ) (inverted : Bool) → StandsAt t m front (collapse l q true inverted true) rest → q < n → letters_anticommute (flip_of l) l ≡ true
        → IsInverted (wrong_record m (single_error_on t (in_front q) (flip_of l)) [])
    wrong-reset_too l q inverted at less other fit i lt same coins =
        let x : Step = collapse l q true inverted true in
        let k : Letter = flip_of l in
        wrong-is t m front x rest at i lt same (single_error_on t (in_front q) k ∷ []) (collapse l q true (not inverted) true) fit refl refl less
        (collapse-negated n D i rest l q inverted true (few t m front x rest at) (preserved-there t m front x rest at i lt same)) coins
        (parity-false (flips n items coins (single_error_on t (in_front q) k) i) ∙ flips-front t m front x rest at i lt same k q coins less
        ∙ wrong-reset n D i rest l q less inverted other (few t m front x rest at))

    wrong-of_product : (factors : List Factor) (inverted : Bool) → StandsAt t m front (product factors inverted) rest → All (λ f. f.qubit < n) factors → names_twice factors ≡ false
        → All IsInverted (wrong_product t m factors)
    wrong-of_product [] inverted at less distinct = All-nil IsInverted
    wrong-of_product (g ∷ gs) inverted at less distinct =
        let x : Step = product (g ∷ gs) inverted in
        let q : ℕ = g.qubit in
        let k : Letter = flip_of (letter_of g.letter) in
        let here : q < n = All-head (λ f. f.qubit < n) g gs less in
        All-cons IsInverted (wrong_record m (single_error_on t (in_front q) k) (single_error_on t (following q) k ∷ [])) []
        (λ fit i lt same coins.
        wrong-is t m front x rest at i lt same (single_error_on t (in_front q) k ∷ single_error_on t (following q) k ∷ []) (product (g ∷ gs) (not inverted)) fit refl refl less
        (product-negated n D i rest (g ∷ gs) inverted (few t m front x rest at) (preserved-there t m front x rest at i lt same)) coins
        ((λ j.
        flips-front t m front x rest at i lt same k q coins here j
        ⊕ (parity-false (flips n items coins (single_error_on t (following q) k) i) ∙ flips-following t m front x rest at i lt same k q coins here) j)
        ∙ wrong-product n D i rest g gs inverted here distinct (axis-flips g.letter) (few t m front x rest at)))
        (All-nil IsInverted)

    step-inverted : (asked : ErrorLetters) (x : Step) → StandsAt t m front x rest → StepFits n x → HasDistinctQubits x → IsFlippable x → All IsInverted (errors_at asked t m x)
    step-inverted asked (one g q) at less distinct other = letters-plain (letters_asked asked) (single_error_on t (following q))
    step-inverted asked (two g a b) at less distinct other = products-plain asked (single_error_on t (following a)) (single_error_on t (following b))
    step-inverted asked (controlled l k q) at less distinct other = letters-plain (letters_asked asked) (single_error_on t (following q))
    step-inverted asked (collapse l q false inverted resets) at less distinct other = letters-plain (letters_asked asked) (single_error_on t (following q))
    step-inverted asked (collapse l q true inverted true) at less distinct other =
        let ls = letters_asked asked in
        let wrong : Error = wrong_record m (single_error_on t (in_front q) (flip_of l)) [] in
        All-append IsInverted (each_letter ls (single_error_on t (in_front q))) (wrong ∷ each_letter ls (single_error_on t (following q))) (letters-plain ls (single_error_on t (in_front q)))
        (All-cons IsInverted wrong (each_letter ls (single_error_on t (following q))) (wrong-reset_too l q inverted at less other) (letters-plain ls (single_error_on t (following q))))
    step-inverted asked (collapse l q true inverted false) at less distinct other =
        let ls = letters_asked asked in
        let wrong : Error = wrong_record m (single_error_on t (in_front q) (flip_of l)) (single_error_on t (following q) (flip_of l) ∷ []) in
        All-append IsInverted (each_letter ls (single_error_on t (in_front q))) (wrong ∷ []) (letters-plain ls (single_error_on t (in_front q)))
        (All-cons IsInverted wrong [] (wrong-after l q inverted at less other) (All-nil IsInverted))
    step-inverted asked (product factors inverted) at less distinct other =
        All-append IsInverted (flat_map (λ f. each_letter (letters_asked asked) (single_error_on t (in_front f.qubit))) factors) (wrong_product t m factors)
        (factors-plain (letters_asked asked) t factors) (wrong-of_product factors inverted at less distinct)
    step-inverted asked (detector ks) at less distinct other = All-nil IsInverted
    step-inverted asked (observable j ks) at less distinct other = All-nil IsInverted

  -- one step after another
  steps-inverted : (asked : ErrorLetters) (t m : ℕ) (front ys : List Step) → xs ≡ front ++ ys → t ≡ length front → m ≡ records_of front
      → All (StepFits n) ys → All HasDistinctQubits ys → All IsFlippable ys → All IsInverted (errors_from asked t m ys)
  steps-inverted asked t m front [] parts steps records y_fits distinct other = All-nil IsInverted
  steps-inverted asked t m front (x ∷ rest) parts steps records y_fits distinct other =
      All-append IsInverted (errors_at asked t m x) (errors_from asked (t + 1) (m + makes x) rest)
      (step-inverted t m front rest asked x (record { parts = parts; steps = steps; records = records })
      (All-head (StepFits n) x rest y_fits) (All-head HasDistinctQubits x rest distinct) (All-head IsFlippable x rest other))
      (steps-inverted asked (t + 1) (m + makes x) (front ++ x ∷ []) rest (parts ∙ sym (append_assoc front (x ∷ []) rest)) (omega (arith, steps, length-append front (x ∷ [])))
      (omega (arith, records, records-following front x)) (All-tail (StepFits n) x rest y_fits) (All-tail HasDistinctQubits x rest distinct) (All-tail IsFlippable x rest other))

  pub errors-inverted : (asked : ErrorLetters) → All HasDistinctQubits xs → All IsInverted (errors_from asked 0 0 xs)
  errors-inverted asked distinct = steps-inverted asked 0 0 [] xs refl refl refl fits distinct (all-flippable items)
