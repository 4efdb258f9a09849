-- Choices: of errors with weights that complete what is flipped one is among those listed.
use Rattle.stab_search.proofs.Names.{◌≡◌, ℕ, ◌-◌, ◌*◌, ◌≤◌, ◌<◌, ◌⊎◌, inl, inr, sym, ◌∙◌, ap, arith, true, false, List, [], ◌∷◌, length, get_or, slice_index, ◌⊕◌, parity-false, IsAscending, ErrorTable, odd, row, flipped_by_rows, IsLogicalError, HasNoneWithin, ForEach, has, key_of, shares, Completes, ways, HasNoFewer, IsWeightedWay, MeetsEach}
use Rattle.stab_search.proofs.CoverLemmas.{no-fewer, above, some-shared}
use Rattle.stab_search.proofs.EndLemmas.{completes-observed}
use Rattle.stab_search.proofs.FlipLemmas.{namer, key-same}
use Rattle.stab_search.proofs.ListLemmas.{by-bit, all-each, each-has, has-here}
use Rattle.stab_search.proofs.WayLemmas.{no-ways}

-- what completes nothing is a logical error
pub completes-logical : (t : ErrorTable) (s rest : List ℕ) → s ≡ [] → Completes t s rest → IsLogicalError t rest
completes-logical t s rest nothing c = record {
  inside = all-each (λ r. r < length t.rows) rest c.inside;
  undetected = λ d lt. c.undetected d lt ∙ ap (odd d) nothing;
  observed = let o = c.observed.0 in (
    o,
    c.observed.1,
    sym (parity-false (flipped_by_rows t.rows rest o)) ∙ ap (λ b. flipped_by_rows t.rows rest o ⊕ b) (sym (ap (odd o) nothing)) ∙ c.observed.2,
  );
}

pub logical-completes : (t : ErrorTable) (rest : List ℕ) → ForEach (λ r. r < length t.rows) rest → IsLogicalError t rest → Completes t [] rest
logical-completes t rest inside e = record {
  inside = inside;
  undetected = λ d lt. e.undetected d lt;
  observed = (e.observed.0, e.observed.1, parity-false (flipped_by_rows t.rows rest e.observed.0) ∙ e.observed.2);
}

module _ (t : ErrorTable) (weights s : List ℕ) where
  -- the last error has the key of what is flipped
  pub meet-keyed : (numbers : List ℕ) (left : ℕ) (at : List ℕ) → length numbers ≤ t.detectors → left ≡ 1
      → ((e : ℕ) → e < length t.rows → 0 < slice_index weights e → key_of numbers (row t.rows e) ≡ key_of numbers s → has e at ≡ true) → MeetsEach t weights s left at
  meet-keyed numbers left at few one all [] way = let count = way.count in absurd (omega arith)
  meet-keyed numbers left at few one all (h ∷ []) way = (
    h,
    (
      has-here h [],
      all h way.completes.inside.0 way.weighted.0
          (key-same numbers (row t.rows h) s (λ d lt. sym (parity-false (odd d (row t.rows h))) ∙ way.completes.undetected d (omega arith))),
    ),
  )
  meet-keyed numbers left at few one all (h ∷ r ∷ rest) way = let count = way.count in absurd (omega arith)

  -- one flips a detector that is flipped
  pub meet-flipping : (left : ℕ) (at : List ℕ) (rest : List ℕ) (i : ℕ) → IsWeightedWay t weights s left rest → flipped_by_rows t.rows rest i ≡ true
      → ((e : ℕ) → e < length t.rows → 0 < slice_index weights e → odd i (row t.rows e) ≡ true → has e at ≡ true) → (e : ℕ) × ((has e rest ≡ true) × (has e at ≡ true))
  meet-flipping left at rest i way flipped all =
      let one = namer t.rows rest i flipped in (
        one.0,
        (
          one.1.0,
          all one.0 (each-has (λ r. r < length t.rows) one.0 rest way.completes.inside one.1.0)
              (each-has (λ e. 0 < slice_index weights e) one.0 rest way.weighted one.1.0) one.1.1,
        ),
      )

  module _ (ds : List ℕ) (inside : ForEach (λ d. d < t.detectors) ds) (are_flipped : ForEach (λ d. odd d s ≡ true) ds) (left : ℕ) where
    flip-each : (rest : List ℕ) → Completes t s rest → ForEach (λ d. flipped_by_rows t.rows rest d ≡ true) ds
    flip-each rest c = both ds inside are_flipped
      where
        both : (xs : List ℕ) → ForEach (λ d. d < t.detectors) xs → ForEach (λ d. odd d s ≡ true) xs → ForEach (λ d. flipped_by_rows t.rows rest d ≡ true) xs
        both [] a b = tt
        both (x ∷ xs) a b = (c.undetected x a.0 ∙ b.0, both xs a.1 b.1)

    pub meet-detector : (d : ℕ) (at : List ℕ) → has d ds ≡ true
        → ((e : ℕ) → e < length t.rows → 0 < slice_index weights e → odd d (row t.rows e) ≡ true → has e at ≡ true) → MeetsEach t weights s left at
    meet-detector d at among all rest way =
        meet-flipping left at rest d way (each-has (λ k. flipped_by_rows t.rows rest k ≡ true) d ds (flip-each rest way.completes) among) all

    -- one flips many of the detectors
    pub meet-many : (least : ℕ) (at : List ℕ) → 0 < least → (least - 1) * left < length ds
        → ((e d : ℕ) → e < length t.rows → 0 < slice_index weights e → least ≤ shares t.rows e ds → has d ds ≡ true → odd d (row t.rows e) ≡ true → has e at ≡ true)
        → MeetsEach t weights s left at
    meet-many least at some few all rest way =
        let whole = no-fewer t rest ds (flip-each rest way.completes) in
        let same = ap (λ n. (least - 1) * n) way.count in
        let one = above t.rows rest ds (least - 1) (omega arith) in
        let many = one.1.1 in
        let shared = some-shared t.rows one.0 ds (omega arith) in (
          one.0,
          (
            one.1.0,
            all one.0 shared.0 (each-has (λ r. r < length t.rows) one.0 rest way.completes.inside one.1.0)
                (each-has (λ e. 0 < slice_index weights e) one.0 rest way.weighted one.1.0) (omega arith) shared.1.0 shared.1.1,
          ),
        )

-- none completes what has no detector, if errors are left

pub nothing-left : (t : ErrorTable) (weights s : List ℕ) (left : ℕ) → length weights ≡ length t.rows → IsAscending s → HasNoneWithin t left → HasNoFewer t s left → 0 < left
    → (s ≡ []) ⊎ ((0 < length s) × (t.detectors ≤ get_or s 0 0)) → ways t.detectors t.rows weights left s ≡ 0
nothing-left t weights s left count a none fewer some (inl nothing) =
    no-ways t weights left s count
    (λ rest way. let more = none rest (completes-logical t s rest nothing way.completes) in let long = way.count in absurd (omega arith))
nothing-left t weights s left count a none fewer some (inr first) =
    no-ways t weights left s count (λ rest way. let few = fewer [] (completes-observed t s a first.0 first.1) in absurd (omega arith))

-- once each that is listed is without weight there are no ways

pub none-after : (t : ErrorTable) (before after s : List ℕ) (left : ℕ) (at : List ℕ) → length after ≡ length t.rows → MeetsEach t before s left at
    → ((e : ℕ) → has e at ≡ true → slice_index after e ≡ 0) → ((e : ℕ) → has e at ≡ false → slice_index after e ≡ slice_index before e)
    → ways t.detectors t.rows after left s ≡ 0
none-after t before after s left at count meet zero others =
    no-ways t after left s count
    (λ rest way.
    let one = meet rest (record { completes = way.completes; weighted = earlier rest way.weighted; count = way.count }) in
    let some = each-has (λ e. 0 < slice_index after e) one.0 rest way.weighted one.1.0 in
    let none = zero one.0 one.1.1 in
    absurd (omega arith))
  where
    weighed : (e : ℕ) → 0 < slice_index after e → 0 < slice_index before e
    weighed e some =
        by-bit (has e at)
        (λ there. let none = zero e there in absurd (omega arith))
        (λ not. let same = others e not in omega arith)

    earlier : (rest : List ℕ) → ForEach (λ e. 0 < slice_index after e) rest → ForEach (λ e. 0 < slice_index before e) rest
    earlier [] a = tt
    earlier (e ∷ rest) a = (weighed e a.0, earlier rest a.1)
