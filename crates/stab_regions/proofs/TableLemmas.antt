-- Tables: an inserted letter flips the detectors and observables that a run gives as it flips what is asked for.
use Rattle.stab_regions.proofs.Names.{◌≡◌, ℕ, ◌+◌, ◌-◌, ◌<◌, ◌≤◌, ◌⊎◌, inl, inr, refl, sym, ◌∙◌, ap, subst, arith, Bool, false, List, [], ◌∷◌, ◌++◌, le-ltb, lt-ltb, if◌then◌else◌, cases_lt, Letter, ◌⊕◌, single, anticommute, parity-false, Step, one, detectors_of, coins-append, gate_of, origin, all_coins_of, RunsArePointsWithOutputs, StepFits, asks_nothing, asks_observable, bit_asked, with_single_error, flipped_with, steps_before_detector, named_by, region_of_detector, nat_lt}
use Rattle.std.proofs.Common.{All}
use Rattle.stab_regions.proofs.TouchLemmas.{flipped-before}
use Rattle.stab_regions.proofs.RandomLemmas.{flips_asked, single_errors-flip-with-their-coins}
use Rattle.stab_regions.proofs.DetectorLemmas.{detector_bit, count-other, before-other, named-other, before-front, fits-before, detector-bit}
use Rattle.stab_regions.proofs.SingleErrorLemmas.{stands-first, stands-following, bit-same, flipped-with, coins-before}
use Rattle.stab_regions.proofs.ObservableLemmas.{observable_bit, observable-bit}
use Rattle.stab_items.proofs.StepLemmas.{detectors_of-append}

-- whether a letter between front and back flips detector d: not one before it
abbrev pub flips_detector : ℕ → ℕ → List Step → Letter → ℕ → List Step → Bool
flips_detector n d front l q back =
    if nat_lt d (detectors_of front) then false else anticommute (single n q l) (region_of_detector n (d - detectors_of front) back).string

-- with the coins that are flipped with a letter it flips detector d if its region says so
abbrev pub FlipsDetector : (n : ℕ) (front : List Step) (l : Letter) (q : ℕ) (back : List Step) (count d : ℕ) → Type 0
FlipsDetector n front l q back count d =
    (coins : ℕ → Bool) →
    detector_bit n (flipped_with n front l q back coins) (with_single_error front l q back) count d
    ≡ detector_bit n coins (front ++ back) count d ⊕ flips_detector n d front l q back

-- a bit that is not flipped
preserved-bit : (flipped plain flips : Bool) → flipped ≡ plain → flips ≡ false → flipped ≡ plain ⊕ flips
preserved-bit flipped plain flips same e = same ∙ sym (parity-false plain) ∙ ap (λ b. plain ⊕ b) (sym e)

module _ (law : RunsArePointsWithOutputs) (n : ℕ) (front back : List Step) (l : Letter) (q count : ℕ) (lt_q : q < n) (ff : All (StepFits n) front) (fb : All (StepFits n) back) where
  -- a detector before the letter

  module _ (d : ℕ) (lt : d < detectors_of front) where
    -- its bit is asked for in front, whatever follows
    bit-first : (coins : ℕ → Bool) (ys : List Step)
        → detector_bit n coins (front ++ ys) count d ≡ bit_asked n coins asks_nothing (steps_before_detector d front) (named_by d front) origin
    bit-first coins ys =
        let there = stands-first d front ys lt in
        detector-bit law n coins (front ++ ys) count d (omega (arith, lt, detectors_of-append front ys))
        ∙ (λ i. bit_asked n coins asks_nothing (there.0 i) (there.1 i) origin)

    -- the table says that it is not flipped
    flips-none : flips_detector n d front l q back ≡ false
    flips-none = ap (λ b. if b then false else anticommute (single n q l) (region_of_detector n (d - detectors_of front) back).string) (lt-ltb d (detectors_of front) lt)

    -- so the law holds of it
    flips-first : FlipsDetector n front l q back count d
    flips-first coins =
        let others : ℕ → Bool = flipped_with n front l q back coins in
        preserved-bit (detector_bit n others (with_single_error front l q back) count d) (detector_bit n coins (front ++ back) count d) (flips_detector n d front l q back)
        (bit-first others (one (gate_of l) q ∷ back)
        ∙ bit-same n coins others asks_nothing (steps_before_detector d front) (named_by d front) origin
        (λ t less. flipped-before (all_coins_of front) _ coins t (omega (arith, less, coins-before d front)))
        ∙ sym (bit-first coins back))
        flips-none

  -- a detector after it

  module _ (d : ℕ) (lt : d < detectors_of back) where
    -- the steps between the letter and the detector
    abbrev ys : List Step
    ys = steps_before_detector d back

    -- what it names
    abbrev ks : List ℕ
    ks = named_by d back

    -- its number among all
    abbrev site : ℕ
    site = detectors_of front + d

    -- its bit is asked for after these
    bit-following : (coins : ℕ → Bool) → detector_bit n coins (front ++ back) count site ≡ bit_asked n coins asks_nothing (front ++ ys) ks origin
    bit-following coins =
        let there = stands-following d front back in
        detector-bit law n coins (front ++ back) count site (omega (arith, lt, detectors_of-append front back))
        ∙ (λ i. bit_asked n coins asks_nothing (there.0 i) (there.1 i) origin)

    -- and with the letter after these and the letter
    single_error-following : (coins : ℕ → Bool) → detector_bit n coins (with_single_error front l q back) count site ≡ bit_asked n coins asks_nothing (with_single_error front l q ys) ks origin
    single_error-following coins =
        let letter : Step = one (gate_of l) q in
        let there = stands-following d front (letter ∷ back) in
        detector-bit law n coins (with_single_error front l q back) count site (omega (arith, lt, detectors_of-append front (letter ∷ back), count-other letter back refl))
        ∙ (λ i. bit_asked n coins asks_nothing (there.0 i) (there.1 i) origin)
        ∙ (λ i. bit_asked n coins asks_nothing (front ++ before-other letter back d refl i) (named-other letter back d refl i) origin)

    -- the table says what the region says
    flips-asked : flips_detector n site front l q back ≡ flips_asked n asks_nothing l q ys ks
    flips-asked =
        ap (λ b. if b then false else anticommute (single n q l) (region_of_detector n (site - detectors_of front) back).string)
        (le-ltb site (detectors_of front) (omega arith))
        ∙ ap (λ k. anticommute (single n q l) (region_of_detector n k back).string) (omega arith)

    -- the steps before it fit
    fits-following : All (StepFits n) ys
    fits-following = fits-before n d back fb

    -- so the law holds of it
    flips-following : FlipsDetector n front l q back count site
    flips-following coins =
        let others : ℕ → Bool = flipped_with n front l q back coins in
        single_error-following others
        ∙ bit-same n (flipped_with n front l q ys coins) others asks_nothing (with_single_error front l q ys) ks origin (flipped-same coins)
        ∙ single_errors-flip-with-their-coins n coins front ys l q lt_q ff fits-following asks_nothing ks refl
        ∙ (λ i. sym (bit-following coins) i ⊕ sym flips-asked i)
      where
        flipped-same : (coins : ℕ → Bool) (t : ℕ) → t < 0 + all_coins_of (with_single_error front l q ys) → flipped_with n front l q back coins t ≡ flipped_with n front l q ys coins t
        flipped-same coins t less =
            let parts = before-front d back in
            ap (λ zs. flipped_with n front l q zs coins t) parts.1
            ∙ flipped-with n front l q ys parts.0 coins t (omega (arith, less, coins-append front (one (gate_of l) q ∷ ys)))

-- the law of letters and detectors
pub single_errors-flip-detectors : RunsArePointsWithOutputs → (n : ℕ) (front back : List Step) (l : Letter) (q count d : ℕ) → q < n → All (StepFits n) front → All (StepFits n) back
    → d < detectors_of (front ++ back) → FlipsDetector n front l q back count d
single_errors-flip-detectors law n front back l q count d lt_q ff fb lt = by_site (cases_lt d (detectors_of front))
  where
    by_site : (d < detectors_of front) ⊎ (detectors_of front ≤ d) → FlipsDetector n front l q back count d
    by_site (inl less) = flips-first law n front back l q count lt_q ff fb d less
    by_site (inr more) =
        subst (FlipsDetector n front l q back count) (omega (arith, more))
        (flips-following law n front back l q count lt_q ff fb (d - detectors_of front) (omega (arith, lt, more, detectors_of-append front back)))

-- the law of letters and observables
pub single_errors-flip-observables : RunsArePointsWithOutputs → (n : ℕ) (front back : List Step) (l : Letter) (q count j : ℕ) → q < n → All (StepFits n) front → All (StepFits n) back
    → j < count → (coins : ℕ → Bool)
    → observable_bit n (flipped_with n front l q back coins) (with_single_error front l q back) count j
    ≡ observable_bit n coins (front ++ back) count j ⊕ flips_asked n (asks_observable j) l q back []
single_errors-flip-observables law n front back l q count j lt_q ff fb lt coins =
    observable-bit law n (flipped_with n front l q back coins) (with_single_error front l q back) count j lt
    ∙ single_errors-flip-with-their-coins n coins front back l q lt_q ff fb (asks_observable j) [] refl
    ∙ ap (λ b. b ⊕ flips_asked n (asks_observable j) l q back []) (sym (observable-bit law n coins (front ++ back) count j lt))
