-- Other coins: a frame on its way to a run with other coins, from each run that had the outcomes there.
use Rattle.stab_frames.proofs.Names.{◌≡◌, ℕ, ◌+◌, ◌-◌, ◌<◌, ◌≤◌, refl, sym, ◌∙◌, ap, subst, Bool, false, List, [], ◌∷◌, ◌++◌, append_assoc, drop, get_or, arith, take-append-drop, Letter, ◌⊕◌, parity-comm, Signed, single, Event, is_random, Step, one, two, controlled, collapse, product, detector, observable, string_of, outcome_at, Point, coins_of, all_coins_of, given, next_point, outputs, random-outcome, pivot_at, PropagationState, frame_at, PropagatesToOthers, outcome_of, differing, IsDrawn, AreDrawn, AreDetermined, GoesOver}
use Rattle.stab_frames.proofs.PropagatedLemmas.{first-flag, determined-enough}

-- an outcome gives the coin of a random one

measured-determined : (coins others olds : ℕ → Bool) (free : List Bool) (m : Signed) (trace : List Event) (c : ℕ) → get_or free c false ≡ is_random trace m
    → olds c ≡ outcome_at coins m trace c → IsDrawn free (differing olds others) (λ t. others t ⊕ coins t) c
measured-determined coins others olds free m trace c flag outcome_is = λ is.
    parity-comm (others c) (coins c) ∙ ap (λ b. b ⊕ others c) (sym (outcome_is ∙ random-outcome trace m (sym flag ∙ is) (coins c)))

-- so the outcomes and the new coins say which coins differ

further : (c start k : ℕ) → start ≤ c → (c + k) - start ≡ (c - start) + k
further c start k le = omega (arith, le)

module _ (n : ℕ) (coins others : ℕ → Bool) (free outcomes : List Bool) (start : ℕ) where
  abbrev olds : ℕ → Bool
  olds = outcome_of outcomes start

  abbrev draw : ℕ → Bool
  draw = differing olds others

  abbrev changes : ℕ → Bool
  changes t = others t ⊕ coins t

  unmeasured-step : (c k : ℕ) (rest later : List Bool) → k ≡ 0 → drop c free ≡ rest → drop (c - start) outcomes ≡ later
      → (0 < k → IsDrawn free draw changes c) × (drop (c + k) free ≡ rest) × (drop ((c + k) - start) outcomes ≡ later)
  unmeasured-step c k rest later e randomness bits =
      let same : c + k ≡ c = omega (arith, e) in
      (λ lt. absurd (omega (arith, e, lt)), ap (λ j. drop j free) same ∙ randomness, ap (λ j. drop (j - start) outcomes) same ∙ bits)

  measured-step : (m : Signed) (trace : List Event) (c : ℕ) (rest later : List Bool) → start ≤ c → drop c free ≡ is_random trace m ∷ rest
      → drop (c - start) outcomes ≡ outcome_at coins m trace c ∷ later
      → (0 < 1 → IsDrawn free draw changes c) × (drop (c + 1) free ≡ rest) × (drop ((c + 1) - start) outcomes ≡ later)
  measured-step m trace c rest later le randomness bits =
      let flag = first-flag free c (is_random trace m) rest randomness in
      let bit = first-flag outcomes (c - start) (outcome_at coins m trace c) later bits in
      (λ lt. measured-determined coins others olds free m trace c flag.0 bit.0, flag.1, ap (λ j. drop j outcomes) (further c start 1 le) ∙ bit.1)

  change-step : (x : Step) (a : Point) (rest later : List Bool) → start ≤ a.coin
      → drop a.coin free ≡ (given n coins x a).free ++ rest → drop (a.coin - start) outcomes ≡ (given n coins x a).outcomes ++ later
      → (0 < coins_of x → IsDrawn free draw changes a.coin) × (drop (a.coin + coins_of x) free ≡ rest)
      × (drop ((a.coin + coins_of x) - start) outcomes ≡ later)
  change-step (one g q) a rest later le randomness bits = unmeasured-step a.coin 0 rest later refl randomness bits
  change-step (two g p q) a rest later le randomness bits = unmeasured-step a.coin 0 rest later refl randomness bits
  change-step (controlled l k q) a rest later le randomness bits = unmeasured-step a.coin 0 rest later refl randomness bits
  change-step (collapse l q recorded inverted resets) a rest later le randomness bits = measured-step (single n q l) a.trace a.coin rest later le randomness bits
  change-step (product factors inverted) a rest later le randomness bits = measured-step (string_of n factors) a.trace a.coin rest later le randomness bits
  change-step (detector ks) a rest later le randomness bits = unmeasured-step a.coin 0 rest later refl randomness bits
  change-step (observable j ks) a rest later le randomness bits = unmeasured-step a.coin 0 rest later refl randomness bits

  changes-determined : (xs : List Step) (a : Point) (rest : List Bool) → start ≤ a.coin
      → drop a.coin free ≡ (outputs n coins xs a).free ++ rest → drop (a.coin - start) outcomes ≡ (outputs n coins xs a).outcomes
      → AreDrawn free draw changes xs a.coin
  changes-determined [] a rest le randomness bits = tt
  changes-determined (x ∷ xs) a rest le randomness bits =
      let next = next_point n coins x a in
      let step = change-step x a ((outputs n coins xs next).free ++ rest) (outputs n coins xs next).outcomes le
      (randomness ∙ append_assoc (given n coins x a).free (outputs n coins xs next).free rest) bits in
      (step.0, changes-determined xs next rest (omega (arith, le)) step.1 step.2)

-- from each run that had the outcomes

pub propagation-others : (n : ℕ) (strings : List (List Letter)) (free outcomes : List Bool) (others : ℕ → Bool) (xs : List Step) (old new : PropagationState)
    → GoesOver n strings free (differing (outcome_of outcomes old.coin) others) xs old new → PropagatesToOthers n (pivot_at strings free) free outcomes others xs old new
propagation-others n strings free outcomes others xs old new goes = λ coins a gone.
    let rest = drop (all_coins_of xs) (drop old.coin free) in
    let randomness : drop old.coin free ≡ (outputs n coins xs a).free ++ rest = sym (take-append-drop (all_coins_of xs) (drop old.coin free)) ∙ ap (λ bits. bits ++ rest) (sym gone.randomness) in
    let there : drop a.coin free ≡ (outputs n coins xs a).free ++ rest = ap (λ k. drop k free) gone.coin ∙ randomness in
    let start : a.coin - old.coin ≡ 0 = omega (arith, gone.coin) in
    let drawn = subst (AreDrawn free (differing (outcome_of outcomes old.coin) others) (λ t. others t ⊕ coins t) xs) gone.coin
    (changes-determined n coins others free outcomes old.coin xs a rest (omega (arith, gone.coin)) there
    (ap (λ k. drop k outcomes) start ∙ sym gone.outcomes)) in (
      goes.over (λ t. others t ⊕ coins t) drawn,
      λ base. determined-enough n coins strings free (λ t. others t ⊕ coins t) xs (frame_at base old) a
          (subst (λ c. AreDetermined n strings free (λ t. others t ⊕ coins t) xs c (frame_at base old)) (sym gone.coin) (goes.determined (λ t. others t ⊕ coins t) drawn base))
          gone.are_true rest there,
    )
