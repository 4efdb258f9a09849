-- Bits by their numbers: a bit of a run is that of a detector or an observable, and what the pass finds of a parity is what it
-- finds of that one.
use Rattle.stab_regions.proofs.Names.{◌≡◌, ℕ, ◌-◌, ◌<◌, ◌≤◌, ◌⊎◌, inl, inr, sym, ◌∙◌, ap, arith, Bool, false, List, [], ◌++◌, lt-ltb, le-ltb, cases_lt, cond-true, cond-false, get_or_append_left, get_or-append_right, Letter, single, anticommute, strings_anticommute-blank_right, diagonal, Step, detectors_of, State, start, run, RunsArePointsWithOutputs, region_of, keep_region, asks_nothing, asks_observable, is_deterministic, steps_before_detector, named_by, region_of_detector, detectors_before, parity_region, parity_preserved, parity_deterministic, parity_flips, bit, deterministic_bit, parity_bit}
use Rattle.std.proofs.Common.{nat_lt}
use Rattle.std.specs.Prelude.{◌&&◌}
use Rattle.stab_regions.proofs.DetectorLemmas.{detector_bit, count-detectors}
use Rattle.stab_regions.proofs.RandomLemmas.{flips_asked}
use Rattle.stab_regions.proofs.ObservableLemmas.{observable_bit}
use Rattle.stab_regions.proofs.TableLemmas.{flips_detector}
use Rattle.stab_items.proofs.StepLemmas.{detectors_of-append}
use Rattle.stab_regions.proofs.ParityLemmas.{region-observable, retained-observable, region-front}

-- the bits of a run

module _ (law : RunsArePointsWithOutputs) (n count : ℕ) (coins : ℕ → Bool) (xs : List Step) (i : ℕ) where
  -- those of detectors come first
  pub bit-detector : i < detectors_of xs → bit n count coins xs i ≡ detector_bit n coins xs count i
  bit-detector lt =
      let s : State = run n coins xs (start count) in
      get_or_append_left s.detectors s.observables false i (omega (arith, lt, count-detectors law n coins xs count))

  -- then those of observables
  pub bit-observable : detectors_of xs ≤ i → bit n count coins xs i ≡ observable_bit n coins xs count (i - detectors_of xs)
  bit-observable le =
      let s : State = run n coins xs (start count) in
      get_or-append_right s.detectors s.observables (detectors_of xs) i false (count-detectors law n coins xs count) le

-- the region of a parity before the last steps, and whether they keep it

module _ (n D i : ℕ) (back : List Step) where
  -- one that is among them has its own region
  region-detector : i < D → detectors_before D back ≤ i → parity_region n D i back ≡ region_of_detector n (i - detectors_before D back) back
  region-detector lt le = cond-true (nat_lt i D) _ _ (lt-ltb i D lt) ∙ cond-false (nat_lt i (detectors_before D back)) _ _ (le-ltb i (detectors_before D back) le)

  retained-detector : i < D → detectors_before D back ≤ i
      → parity_preserved n D i back
      ≡ keep_region n asks_nothing (steps_before_detector (i - detectors_before D back) back) (region_of n (named_by (i - detectors_before D back) back))
  retained-detector lt le = cond-true (nat_lt i D) _ _ (lt-ltb i D lt) ∙ cond-false (nat_lt i (detectors_before D back)) _ _ (le-ltb i (detectors_before D back) le)

-- what the pass over all steps finds deterministic

module _ (n i : ℕ) (xs : List Step) where
  -- a detector's number among all
  site : i - detectors_before (detectors_of xs) xs ≡ i
  site = omega arith

  pub deterministic-detector : i < detectors_of xs → parity_deterministic n (detectors_of xs) i xs ≡ is_deterministic n asks_nothing (steps_before_detector i xs) (named_by i xs)
  deterministic-detector lt =
      (λ t. retained-detector n (detectors_of xs) i xs lt (omega arith) t && diagonal (region-detector n (detectors_of xs) i xs lt (omega arith) t).string.letters)
      ∙ ap (λ d. is_deterministic n asks_nothing (steps_before_detector d xs) (named_by d xs)) site

  pub value-detector : i < detectors_of xs → parity_bit n (detectors_of xs) i xs ≡ deterministic_bit n asks_nothing (steps_before_detector i xs) (named_by i xs)
  value-detector lt =
      ap (λ r. r.string.negative) (region-detector n (detectors_of xs) i xs lt (omega arith)) ∙ ap (λ d. (region_of_detector n d xs).string.negative) site

  pub deterministic-observable : detectors_of xs ≤ i → parity_deterministic n (detectors_of xs) i xs ≡ is_deterministic n (asks_observable (i - detectors_of xs)) xs []
  deterministic-observable le =
      (λ t. retained-observable n (detectors_of xs) i xs le t && diagonal (region-observable n (detectors_of xs) i xs le t).string.letters)

  pub value-observable : detectors_of xs ≤ i → parity_bit n (detectors_of xs) i xs ≡ deterministic_bit n (asks_observable (i - detectors_of xs)) xs []
  value-observable le = ap (λ r. r.string.negative) (region-observable n (detectors_of xs) i xs le)

-- what it says of an inserted letter

module _ (n i : ℕ) (front : List Step) (l : Letter) (q : ℕ) (back : List Step) where
  -- how many detectors are in front of it
  before : detectors_before (detectors_of (front ++ back)) back ≡ detectors_of front
  before = omega (arith, detectors_of-append front back)

  pub flips-detector : i < detectors_of (front ++ back) → parity_flips n (detectors_of (front ++ back)) i l q back ≡ flips_detector n i front l q back
  flips-detector lt = by_site (cases_lt i (detectors_of front))
    where
      D : ℕ
      D = detectors_of (front ++ back)

      by_site : (i < detectors_of front) ⊎ (detectors_of front ≤ i) → parity_flips n D i l q back ≡ flips_detector n i front l q back
      by_site (inl less) =
          ap (λ r. anticommute (single n q l) r.string) (region-front n D i back lt (omega (arith, less, before)))
          ∙ strings_anticommute-blank_right n (single n q l).letters
          ∙ sym (cond-true (nat_lt i (detectors_of front)) _ _ (lt-ltb i (detectors_of front) less))
      by_site (inr more) =
          ap (λ r. anticommute (single n q l) r.string) (region-detector n D i back lt (omega (arith, more, before)))
          ∙ ap (λ k. anticommute (single n q l) (region_of_detector n (i - k) back).string) before
          ∙ sym (cond-false (nat_lt i (detectors_of front)) _ _ (le-ltb i (detectors_of front) more))

  pub flips-observable : (D : ℕ) → D ≤ i → parity_flips n D i l q back ≡ flips_asked n (asks_observable (i - D)) l q back []
  flips-observable D le = ap (λ r. anticommute (single n q l) r.string) (region-observable n D i back le)
