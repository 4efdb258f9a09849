-- Single errors and bits: what is proved of what is asked for, of detectors and of observables, said of the bits of a run by their numbers.
use Rattle.stab_regions.proofs.Names.{◌≡◌, ℕ, ◌+◌, ◌-◌, ◌<◌, ◌≤◌, ◌⊎◌, inl, inr, ◌↔◌, sym, ◌∙◌, ap, subst, arith, Bool, true, List, [], ◌++◌, take, drop, cases_lt, Letter, ◌⊕◌, parity-comm, parity-twice, Step, unroll, observables_of, detectors_of, single, all_coins_of, all_flipped_coins, origin, RunsArePointsWithOutputs, StepFits, asks_nothing, asks_observable, is_deterministic, deterministic_bit, bit_asked, with_single_error, flipped_with, steps_before_detector, named_by, parity_deterministic, parity_bit, parity_flips, bit, DeterministicParities, DeterministicParityBits, DiffersAsFound, SingleErrorsFlipParities, SitesFlipDeterministicParities}
use Rattle.std.proofs.Common.{All, take-append-drop}
use Rattle.stab_regions.proofs.DeterministicLemmas.{deterministic-bits}
use Rattle.stab_regions.proofs.TouchLemmas.{flipped-twice}
use Rattle.stab_regions.proofs.RandomLemmas.{flips_asked, deterministic-where-the-same}
use Rattle.stab_regions.proofs.DetectorLemmas.{detector_bit, detector-bit, fits-front, fits-back, fits-before}
use Rattle.stab_regions.proofs.ObservableLemmas.{observable_bit, observable-bit}
use Rattle.stab_regions.proofs.SingleErrorLemmas.{count-single_error}
use Rattle.stab_regions.proofs.TableLemmas.{flips_detector, single_errors-flip-detectors, single_errors-flip-observables}
use Rattle.stab_regions.proofs.BitLemmas.{bit-detector, bit-observable, deterministic-detector, deterministic-observable, value-detector, value-observable, flips-detector, flips-observable}

-- of a flipped bit and the bit: whether it is flipped
difference : (flipped plain flips : Bool) → flipped ≡ plain ⊕ flips → flipped ⊕ plain ≡ flips
difference flipped plain flips e = ap (λ b. b ⊕ plain) e ∙ parity-comm (plain ⊕ flips) plain ∙ parity-twice plain flips

-- the bit is the same for all random bits
abbrev pub SameForAll : (n count : ℕ) → List Step → ℕ → Type 0
SameForAll n count xs i = (coins others : ℕ → Bool) → bit n count others xs i ≡ bit n count coins xs i

-- a bit is what is asked for at the end of some steps, and the pass finds of it what it finds of that
record AskedBit (n count : ℕ) (xs : List Step) (i : ℕ) : Type 0 where
  asked : Step → List ℕ
  front : List Step
  looks : List ℕ
  fits : All (StepFits n) front
  asks : (coins : ℕ → Bool) → bit n count coins xs i ≡ bit_asked n coins asked front looks origin
  deterministic : parity_deterministic n (detectors_of xs) i xs ≡ is_deterministic n asked front looks
  value : parity_bit n (detectors_of xs) i xs ≡ deterministic_bit n asked front looks

module _ (law : RunsArePointsWithOutputs) (n count : ℕ) where
  module _ (xs : List Step) (i : ℕ) (fits : All (StepFits n) xs) (lt : i < detectors_of xs + count) where
    -- so is each bit of a run
    asked-bit : AskedBit n count xs i
    asked-bit = by_site (cases_lt i (detectors_of xs))
      where
        by_site : (i < detectors_of xs) ⊎ (detectors_of xs ≤ i) → AskedBit n count xs i
        by_site (inl less) = record {
          asked = asks_nothing;
          front = steps_before_detector i xs;
          looks = named_by i xs;
          fits = fits-before n i xs fits;
          asks = λ coins. bit-detector law n count coins xs i less ∙ detector-bit law n coins xs count i less;
          deterministic = deterministic-detector n i xs less;
          value = value-detector n i xs less;
        }
        by_site (inr more) = record {
          asked = asks_observable (i - detectors_of xs);
          front = xs;
          looks = [];
          fits = fits;
          asks = λ coins. bit-observable law n count coins xs i more ∙ observable-bit law n coins xs count (i - detectors_of xs) (omega (arith, lt, more));
          deterministic = deterministic-observable n i xs more;
          value = value-observable n i xs more;
        }

    -- exactly these are found deterministic
    pub deterministic-parity : (parity_deterministic n (detectors_of xs) i xs ≡ true) ↔ SameForAll n count xs i
    deterministic-parity =
        let it = asked-bit in
        let exact = deterministic-where-the-same n it.asked it.front it.looks it.fits in (
          λ e coins others. it.asks others ∙ exact.0 (sym it.deterministic ∙ e) coins others ∙ sym (it.asks coins),
          λ same. it.deterministic ∙ exact.1 (λ coins others. sym (it.asks others) ∙ same coins others ∙ it.asks coins),
        )

    -- with the bit that the pass gives
    pub parity-bit : parity_deterministic n (detectors_of xs) i xs ≡ true → (coins : ℕ → Bool) → bit n count coins xs i ≡ parity_bit n (detectors_of xs) i xs
    parity-bit e coins =
        let it = asked-bit in
        it.asks coins ∙ deterministic-bits n coins it.asked it.front it.looks it.fits (sym it.deterministic ∙ e) ∙ sym it.value

  -- inserted letters

  module _ (front : List Step) (l : Letter) (q : ℕ) (back : List Step) (i : ℕ) where
    abbrev D : ℕ
    D = detectors_of (front ++ back)

    -- the letter is no detector
    same_count : detectors_of (with_single_error front l q back) ≡ D
    same_count = count-single_error front l q back

    -- with these coins with the letter, and those without it, the bit differs if the pass says so
    abbrev Flips : (coins others : ℕ → Bool) → Type 0
    Flips coins others = DiffersAsFound n count front l q back i coins others

    -- it does if the bits of detectors do
    detector-flips : (coins others : ℕ → Bool) → i < D
        → detector_bit n others (with_single_error front l q back) count i ≡ detector_bit n coins (front ++ back) count i ⊕ flips_detector n i front l q back
        → Flips coins others
    detector-flips coins others lt e =
        (λ t. bit-detector law n count others (with_single_error front l q back) i (omega (arith, lt, same_count)) t ⊕ bit-detector law n count coins (front ++ back) i lt t)
        ∙ difference _ _ _ e
        ∙ sym (flips-detector n i front l q back lt)

    -- and if those of observables do
    observable-flips : (coins others : ℕ → Bool) → D ≤ i
        → observable_bit n others (with_single_error front l q back) count (i - D)
        ≡ observable_bit n coins (front ++ back) count (i - D) ⊕ flips_asked n (asks_observable (i - D)) l q back []
        → Flips coins others
    observable-flips coins others le e =
        (λ t. (bit-observable law n count others (with_single_error front l q back) i (omega (arith, le, same_count))
        ∙ ap (λ d. observable_bit n others (with_single_error front l q back) count (i - d)) same_count) t
        ⊕ bit-observable law n count coins (front ++ back) i le t)
        ∙ difference _ _ _ e
        ∙ sym (flips-observable n i front l q back D le)

    module _ (lt_q : q < n) (fits : All (StepFits n) (front ++ back)) (lt : i < D + count) where
      -- so it does with the coins that are flipped with the letter
      pub any-flips : (coins : ℕ → Bool) → Flips coins (flipped_with n front l q back coins)
      any-flips coins = by_site (cases_lt i D)
        where
          ff : All (StepFits n) front
          ff = fits-front n front back fits

          fb : All (StepFits n) back
          fb = fits-back n front back fits

          by_site : (i < D) ⊎ (D ≤ i) → Flips coins (flipped_with n front l q back coins)
          by_site (inl less) =
              detector-flips coins (flipped_with n front l q back coins) less (single_errors-flip-detectors law n front back l q count i lt_q ff fb less coins)
          by_site (inr more) =
              observable-flips coins (flipped_with n front l q back coins) more
              (single_errors-flip-observables law n front back l q count (i - D) lt_q ff fb (omega (arith, lt, more)) coins)

      -- and for all random bits if it is found deterministic, since any coins are flipped ones
      pub deterministic-flips : parity_deterministic n D i (front ++ back) ≡ true → (coins others : ℕ → Bool) → Flips coins others
      deterministic-flips deterministic coins others =
          let theirs : ℕ → Bool = flipped_with n front l q back others in
          let same : bit n count coins (front ++ back) i ≡ bit n count theirs (front ++ back) i = (deterministic-parity (front ++ back) i fits lt).0 deterministic theirs coins in
          (λ t. bit n count (sym (flipped-twice (all_coins_of front) (all_flipped_coins n back (record { string = single n q l; flips = [] })) others) t) (with_single_error front l q back) i ⊕ same t) ∙ any-flips theirs

  module _ (front : List Step) (l : Letter) (q : ℕ) (back : List Step) (i : ℕ) where
    -- whether a letter in steps flips the bit as the pass says
    abbrev StepsFlip : (coins others : ℕ → Bool) → List Step → Type 0
    StepsFlip coins others xs = bit n count others (with_single_error front l q back) i ⊕ bit n count coins xs i ≡ parity_flips n (detectors_of xs) i l q back

    pub steps-flip : (xs : List Step) → xs ≡ front ++ back → All (StepFits n) xs → i < detectors_of xs + count → q < n
        → parity_deterministic n (detectors_of xs) i xs ≡ true → (coins others : ℕ → Bool) → StepsFlip coins others xs
    steps-flip xs e fits lt lt_q deterministic coins others =
        subst (StepsFlip coins others) (sym e)
        (deterministic-flips front l q back i lt_q (subst (All (StepFits n)) e fits) (subst (λ ys. i < detectors_of ys + count) e lt)
        (subst (λ ys. parity_deterministic n (detectors_of ys) i ys ≡ true) e deterministic) coins others)

-- the laws

pub deterministic-parities : RunsArePointsWithOutputs → DeterministicParities
deterministic-parities = deterministic-parity

pub deterministic-parity-bits : RunsArePointsWithOutputs → DeterministicParityBits
deterministic-parity-bits = parity-bit

pub single_errors-flip-parities : RunsArePointsWithOutputs → SingleErrorsFlipParities
single_errors-flip-parities law n count front l q back i lt_q fits lt = record {
  deterministic = deterministic-flips law n count front l q back i lt_q fits lt;
  any = any-flips law n count front l q back i lt_q fits lt;
}

pub sites-flip-deterministic-parities : RunsArePointsWithOutputs → SitesFlipDeterministicParities
sites-flip-deterministic-parities law n items i f fits lt lt_q deterministic coins =
    let xs : List Step = unroll items in
    steps-flip law n (observables_of items) (take f.before xs) f.letter f.qubit (drop f.before xs) i xs (sym (take-append-drop f.before xs)) fits lt lt_q deterministic coins coins
