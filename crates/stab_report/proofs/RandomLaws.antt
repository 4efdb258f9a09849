-- Laws of bits that are not deterministic: that some step makes each, and which is the first.
use Rattle.stab_report.proofs.Names.{◌≡◌, ◌≢◌, refl, sym, ap, ◌∙◌, subst, ℕ, zero, suc, ◌+◌, ◌-◌, ◌<◌, ◌≤◌, Bool, true, false, ◌==◌, nat_lt, List, [], ◌∷◌, ◌++◌, length, get_or, if◌then◌else◌, arith, ltb-true, ltb-false, nat_tests, get_or-set_other, length-append, Items, Step, one, two, controlled, collapse, product, detector, observable, unroll, observables_of, is_detector, detectors_of, parity, State, start, run, effect, steps_before_detector, IsDeterministic, AreDeterministic, bits_in, bit, Bit, Detector, Observable, adds_to, steps_before_adding, steps_before_bit, bit_of}
use Rattle.stab_run.proofs.LookbackLemmas.{zeros-at}

-- some step makes a detector

detector_within : (d : ℕ) (xs : List Step) → d < detectors_of xs → length (steps_before_detector d xs) < length xs
detector_within d [] h = absurd (omega arith)
detector_within zero (x ∷ xs) h = by_test (detector_within zero xs) (is_detector x) h
  where
    by_test : (0 < detectors_of xs → length (steps_before_detector zero xs) < length xs) → (b : Bool) → 0 < (if b then 1 + detectors_of xs else detectors_of xs)
        → length (if b then [] else x ∷ steps_before_detector zero xs) < suc (length xs)
    by_test later true l = omega arith
    by_test later false l = let less = later l in omega arith
detector_within (suc d) (x ∷ xs) h = by_test (detector_within d xs) (detector_within (suc d) xs) (is_detector x) h
  where
    by_test : (d < detectors_of xs → length (steps_before_detector d xs) < length xs) → (suc d < detectors_of xs → length (steps_before_detector (suc d) xs) < length xs)
        → (b : Bool) → suc d < (if b then 1 + detectors_of xs else detectors_of xs)
        → suc (length (if b then steps_before_detector d xs else steps_before_detector (suc d) xs)) < suc (length xs)
    by_test earlier later true l = let less = earlier (omega arith) in omega arith
    by_test earlier later false l = let less = later l in omega arith

-- whether some step adds to an observable
abbrev some_adds : ℕ → List Step → Bool
some_adds j [] = false
some_adds j (x ∷ xs) = if adds_to j x then true else some_adds j xs

adding_within : (j : ℕ) (xs : List Step) → some_adds j xs ≡ true → length (steps_before_adding j xs) < length xs
adding_within j [] e = absurd (cc)
adding_within j (x ∷ xs) e = by_test (adding_within j xs) (adds_to j x) e
  where
    by_test : (some_adds j xs ≡ true → length (steps_before_adding j xs) < length xs) → (b : Bool) → (if b then true else some_adds j xs) ≡ true
        → length (if b then [] else x ∷ steps_before_adding j xs) < suc (length xs)
    by_test later true t = omega arith
    by_test later false t = let less = later t in omega arith

-- an observable that no step adds to stays

different : (i j : ℕ) → (i == j) ≡ false → j ≢ i
different i j e same = grind (arith, nat_tests)

effect_elsewhere : (n : ℕ) (coins : ℕ → Bool) (j : ℕ) (x : Step) (s : State) → adds_to j x ≡ false → get_or (effect n coins x s).observables j false ≡ get_or s.observables j false
effect_elsewhere n coins j (one g q) s e = refl
effect_elsewhere n coins j (two g a b) s e = refl
effect_elsewhere n coins j (controlled l k q) s e = refl
effect_elsewhere n coins j (collapse l q recorded inverted resets) s e = refl
effect_elsewhere n coins j (product factors inverted) s e = refl
effect_elsewhere n coins j (detector ks) s e = refl
effect_elsewhere n coins j (observable i ks) s e = get_or-set_other s.observables i j _ false (different i j e)

observable_stays : (n : ℕ) (coins : ℕ → Bool) (j : ℕ) (xs : List Step) (s : State) → some_adds j xs ≡ false → get_or (run n coins xs s).observables j false ≡ get_or s.observables j false
observable_stays n coins j [] s e = refl
observable_stays n coins j (x ∷ xs) s e = by_test (observable_stays n coins j xs (effect n coins x s)) (adds_to j x) refl e
  where
    by_test : (some_adds j xs ≡ false → get_or (run n coins xs (effect n coins x s)).observables j false ≡ get_or (effect n coins x s).observables j false)
        → (b : Bool) → adds_to j x ≡ b → (if b then true else some_adds j xs) ≡ false → get_or (run n coins xs (effect n coins x s)).observables j false ≡ get_or s.observables j false
    by_test later true t h = absurd (cc)
    by_test later false t h = later h ∙ effect_elsewhere n coins j x s t

-- a run has a bit for each detector

detectors_grow : (n : ℕ) (coins : ℕ → Bool) (xs : List Step) (s : State) → length (run n coins xs s).detectors ≡ length s.detectors + detectors_of xs
detectors_grow n coins [] s = omega arith
detectors_grow n coins (one g q ∷ xs) s = detectors_grow n coins xs (effect n coins (one g q) s)
detectors_grow n coins (two g a b ∷ xs) s = detectors_grow n coins xs (effect n coins (two g a b) s)
detectors_grow n coins (controlled l k q ∷ xs) s = detectors_grow n coins xs (effect n coins (controlled l k q) s)
detectors_grow n coins (collapse l q recorded inverted resets ∷ xs) s = detectors_grow n coins xs (effect n coins (collapse l q recorded inverted resets) s)
detectors_grow n coins (product factors inverted ∷ xs) s = detectors_grow n coins xs (effect n coins (product factors inverted) s)
detectors_grow n coins (observable j ks ∷ xs) s = detectors_grow n coins xs (effect n coins (observable j ks) s)
detectors_grow n coins (detector ks ∷ xs) s =
    let later = detectors_grow n coins xs (effect n coins (detector ks) s) in
    let more : length (s.detectors ++ parity s.records ks ∷ []) ≡ length s.detectors + 1 = length-append s.detectors (parity s.records ks ∷ []) in
    omega (arith, later, more)

-- a bit after the detectors
after_front : (ds os : List Bool) (i d : ℕ) → length ds ≡ d → d ≤ i → get_or (ds ++ os) i false ≡ get_or os (i - d) false
after_front [] os i zero e h = let same : i ≡ i - 0 = omega arith in ap (λ k. get_or os k false) same
after_front [] os i (suc d) e h = absurd (omega arith)
after_front (b ∷ ds) os i zero e h = absurd (omega arith)
after_front (b ∷ ds) os zero (suc d) e h = absurd (omega arith)
after_front (b ∷ ds) os (suc i) (suc d) e h = let less : i - d ≡ suc i - suc d = omega arith in after_front ds os i d (omega arith) (omega arith) ∙ ap (λ k. get_or os k false) less

-- the bit of an observable that no step adds to is 0
unnamed_bit : (n count : ℕ) (coins : ℕ → Bool) (xs : List Step) (i : ℕ) → detectors_of xs ≤ i → some_adds (i - detectors_of xs) xs ≡ false → bit n count coins xs i ≡ false
unnamed_bit n count coins xs i h e =
    let s = run n coins xs (start count) in
    let none : 0 + detectors_of xs ≡ detectors_of xs = omega arith in
    after_front s.detectors s.observables i (detectors_of xs) (detectors_grow n coins xs (start count) ∙ none) h
    ∙ observable_stays n coins (i - detectors_of xs) xs (start count) e
    ∙ zeros-at count (i - detectors_of xs)

-- some step makes each bit that is not deterministic
pub random_within : (n : ℕ) (items : Items) (i : ℕ) (b : Bit) → b ≡ bit_of (detectors_of (unroll items)) i → (IsDeterministic n items i → ⊥) → length (steps_before_bit b (unroll items)) < length (unroll items)
random_within n items i b is random = subst (λ c. length (steps_before_bit c (unroll items)) < length (unroll items)) (sym is) (by_kind (nat_lt i (detectors_of (unroll items))) refl)
  where
    by_adding : (b : Bool) → some_adds (i - detectors_of (unroll items)) (unroll items) ≡ b → detectors_of (unroll items) ≤ i
        → length (steps_before_adding (i - detectors_of (unroll items)) (unroll items)) < length (unroll items)
    by_adding true t h = adding_within (i - detectors_of (unroll items)) (unroll items) t
    by_adding false t h = absurd (random (λ coins others. unnamed_bit n (observables_of items) others (unroll items) i h t ∙ sym (unnamed_bit n (observables_of items) coins (unroll items) i h t)))

    by_kind : (b : Bool) → nat_lt i (detectors_of (unroll items)) ≡ b
        → length (steps_before_bit (if b then Detector i else Observable (i - detectors_of (unroll items))) (unroll items)) < length (unroll items)
    by_kind true t = detector_within i (unroll items) (ltb-true i (detectors_of (unroll items)) t)
    by_kind false t = by_adding (some_adds (i - detectors_of (unroll items)) (unroll items)) refl (ltb-false i (detectors_of (unroll items)) t)

-- which bits are deterministic, by the first that is not

pub first_random_is : (n : ℕ) (items : Items) (deterministic : List Bool) (k : ℕ) → AreDeterministic n items deterministic → k < length deterministic → get_or deterministic k false ≡ false → IsDeterministic n items k → ⊥
first_random_is n items deterministic k are h e is = let yes = (are.exact k (subst (λ m. k < m) are.count h)).1 is in let both : true ≡ false = sym yes ∙ e in cc

pub deterministic_before : (n : ℕ) (items : Items) (deterministic : List Bool) (k : ℕ) → AreDeterministic n items deterministic → k < length deterministic → ((i : ℕ) → i < k → get_or deterministic i false ≡ true) → (i : ℕ) → i < k → IsDeterministic n items i
deterministic_before n items deterministic k are h front i less = (are.exact i (subst (λ m. i < m) are.count (omega arith))).0 (front i less)

pub all_deterministic : (n : ℕ) (items : Items) (deterministic : List Bool) → AreDeterministic n items deterministic → ((i : ℕ) → i < length deterministic → get_or deterministic i false ≡ true) → (i : ℕ) → i < bits_in items → IsDeterministic n items i
all_deterministic n items deterministic are front i less = (are.exact i less).0 (front i (subst (λ m. i < m) (sym are.count) less))

-- no step makes a bit if there are none
pub none_before : (b : Bit) → length (steps_before_bit b []) ≡ 0
none_before (Detector d) = refl
none_before (Observable j) = refl
