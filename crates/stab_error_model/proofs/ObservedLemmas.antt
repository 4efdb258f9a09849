-- Observed rows: a table in which one observable alone counts has the logical errors that flip this observable.
use Rattle.stab_error_model.proofs.Names.{◌≡◌, ℕ, ◌+◌, ◌-◌, ◌<◌, ◌≤◌, ◌==◌, ◌⊎◌, inl, inr, refl, sym, ap, ◌∙◌, subst, Bool, true, false, ◌||◌, List, [], ◌∷◌, length, arith, if◌then◌else◌, Option, Some, None, All, ne_eqb, eqb-true, lt-ltb, le-ltb, cases_lt, get_or-map, get_or_past, length-map, ◌⊕◌, true≢false, eq-eqb, odd, AscendsFrom, IsLogicalError, IsAskedFor, is_searched_number, retained_row, with_observable, IsLogicalOf}
use Rattle.stab_error_model.proofs.RowLemmas.{ascends-weaker}
use Rattle.stab_search.specs.Tables.{ErrorTable, flipped_by_rows}
use Rattle.stab_parities.specs.OddNumbers.{row}
use Rattle.std.specs.List.{filter}

module _ (test : ℕ → Bool) where
  -- what is left of a row after a number, by whether the number passes
  abbrev left : ℕ → List ℕ → Bool → List ℕ
  left k ks b = if b then k ∷ filter test ks else filter test ks

  -- a number that passes is named as often by what is left of a row

  step-passes : (b : Bool) (k i : ℕ) (ks : List ℕ) → (b ≡ false → (k == i) ≡ false) → odd i (filter test ks) ≡ odd i ks → odd i (left k ks b) ≡ odd i (k ∷ ks)
  step-passes true k i ks other e = ap (λ b. (k == i) ⊕ b) e
  step-passes false k i ks other e = e ∙ ap (λ b. b ⊕ odd i ks) (sym (other refl))

  pub odd-passes : (i : ℕ) → test i ≡ true → (ks : List ℕ) → odd i (filter test ks) ≡ odd i ks
  odd-passes i passes [] = refl
  odd-passes i passes (k ∷ ks) =
      step-passes (test k) k i ks (λ fails. ne_eqb k i (λ same. true≢false (sym passes ∙ ap test (sym same) ∙ fails))) (odd-passes i passes ks)

  -- and any other is not named

  step-dropped : (b : Bool) (k i : ℕ) (ks : List ℕ) → (b ≡ true → (k == i) ≡ false) → odd i (filter test ks) ≡ false → odd i (left k ks b) ≡ false
  step-dropped true k i ks other e = ap (λ b. (k == i) ⊕ b) e ∙ ap (λ b. b ⊕ false) (other refl)
  step-dropped false k i ks other e = e

  pub odd-dropped : (i : ℕ) → test i ≡ false → (ks : List ℕ) → odd i (filter test ks) ≡ false
  odd-dropped i drops [] = refl
  odd-dropped i drops (k ∷ ks) =
      step-dropped (test k) k i ks (λ passes. ne_eqb k i (λ same. true≢false (sym passes ∙ ap test same ∙ drops))) (odd-dropped i drops ks)

  -- what is left ascends

  step-ascends : (m k : ℕ) (ks : List ℕ) (b : Bool) → m ≤ k → AscendsFrom (k + 1) (filter test ks) → AscendsFrom m (left k ks b)
  step-ascends m k ks true le ascends = (le, ascends)
  step-ascends m k ks false le ascends = ascends-weaker m (k + 1) (filter test ks) (omega (arith, le)) ascends

  pub ascends-left : (m : ℕ) (ks : List ℕ) → AscendsFrom m ks → AscendsFrom m (filter test ks)
  ascends-left m [] ascends = tt
  ascends-left m (k ∷ ks) ascends = step-ascends m k ks (test k) ascends.0 (ascends-left (k + 1) ks ascends.1)

-- which numbers are retained

retained-detector : (detectors j d : ℕ) → d < detectors → is_searched_number detectors j d ≡ true
retained-detector detectors j d less = ap (λ b. b || ((d - detectors) == j)) (lt-ltb d detectors less)

preserved-asked : (detectors j i : ℕ) → i ≡ detectors + j → is_searched_number detectors j i ≡ true
preserved-asked detectors j i is =
    ap (λ b. b || ((i - detectors) == j)) (le-ltb i detectors (omega (arith, is))) ∙ eq-eqb (i - detectors) j (omega (arith, is))

module _ (t : ErrorTable) where
  abbrev retained : Option ℕ → List (List ℕ)
  retained observable = (with_observable observable t).rows

  pub as-many-retained : (observable : Option ℕ) → length (retained observable) ≡ length t.rows
  as-many-retained None = refl
  as-many-retained (Some j) = length-map t.rows (retained_row t.detectors j)

  pub same-detectors : (observable : Option ℕ) → (with_observable observable t).detectors ≡ t.detectors
  same-detectors None = refl
  same-detectors (Some j) = refl

  row-retained : (j r : ℕ) → row (retained (Some j)) r ≡ retained_row t.detectors j (row t.rows r)
  row-retained j r = by_site (cases_lt r (length t.rows))
    where
      by_site : (r < length t.rows) ⊎ (length t.rows ≤ r) → row (retained (Some j)) r ≡ retained_row t.detectors j (row t.rows r)
      by_site (inl inside) = get_or-map (retained_row t.detectors j) t.rows r [] [] inside
      by_site (inr past) =
          get_or_past (retained (Some j)) r [] (omega (arith, past, as-many-retained (Some j)))
          ∙ ap (retained_row t.detectors j) (sym (get_or_past t.rows r [] past))

  -- what is retained is flipped by the retained rows as by the rows, and nothing else is

  flips-passes : (j i : ℕ) → is_searched_number t.detectors j i ≡ true → (errors : List ℕ) → flipped_by_rows (retained (Some j)) errors i ≡ flipped_by_rows t.rows errors i
  flips-passes j i passes [] = refl
  flips-passes j i passes (r ∷ errors) =
      (λ m. (ap (odd i) (row-retained j r) ∙ odd-passes (is_searched_number t.detectors j) i passes (row t.rows r)) m ⊕ flips-passes j i passes errors m)

  flips-dropped : (j i : ℕ) → is_searched_number t.detectors j i ≡ false → (errors : List ℕ) → flipped_by_rows (retained (Some j)) errors i ≡ false
  flips-dropped j i drops [] = refl
  flips-dropped j i drops (r ∷ errors) =
      (λ m. (ap (odd i) (row-retained j r) ∙ odd-dropped (is_searched_number t.detectors j) i drops (row t.rows r)) m ⊕ flips-dropped j i drops errors m)

  flips-detector : (observable : Option ℕ) (errors : List ℕ) (d : ℕ) → d < t.detectors → flipped_by_rows (retained observable) errors d ≡ flipped_by_rows t.rows errors d
  flips-detector None errors d less = refl
  flips-detector (Some j) errors d less = flips-passes j d (retained-detector t.detectors j d less) errors

  flips-asked : (observable : Option ℕ) (errors : List ℕ) (number : ℕ) → IsAskedFor observable number
      → flipped_by_rows (retained observable) errors (t.detectors + number) ≡ flipped_by_rows t.rows errors (t.detectors + number)
  flips-asked None errors number asked = refl
  flips-asked (Some j) errors number asked =
      flips-passes j (t.detectors + number) (preserved-asked t.detectors j (t.detectors + number) (omega (arith, asked))) errors

  -- an observable that the retained rows flip is one that is asked for

  asked-for : (observable : Option ℕ) (errors : List ℕ) (o : ℕ) → t.detectors ≤ o → flipped_by_rows (retained observable) errors o ≡ true → IsAskedFor observable (o - t.detectors)
  asked-for None errors o past flipped = tt
  asked-for (Some j) errors o past flipped = by_test ((o - t.detectors) == j) refl
    where
      by_test : (b : Bool) → ((o - t.detectors) == j) ≡ b → o - t.detectors ≡ j
      by_test true e = eqb-true (o - t.detectors) j e
      by_test false e =
          let drops : is_searched_number t.detectors j o ≡ false = ap (λ b. b || ((o - t.detectors) == j)) (le-ltb o t.detectors past) ∙ e in
          absurd (true≢false (sym flipped ∙ flips-dropped j o drops errors))

  -- so the logical errors of the retained rows are those that flip an observable that is asked for

  pub from-retained : (observable : Option ℕ) (errors : List ℕ) → IsLogicalError (with_observable observable t) errors → IsLogicalOf observable t errors
  from-retained observable errors e =
      let o = e.observed.0 in
      let past : t.detectors ≤ o = subst (λ d. d ≤ o) (same-detectors observable) e.observed.1 in
      let asked = asked-for observable errors o past e.observed.2 in
      let o_is : t.detectors + (o - t.detectors) ≡ o = omega (arith, past) in
      record {
        inside = subst (λ m. All (λ r. r < m) errors) (as-many-retained observable) e.inside;
        undetected = λ d less. sym (flips-detector observable errors d less) ∙ e.undetected d (subst (λ m. d < m) (sym (same-detectors observable)) less);
        number = o - t.detectors;
        asked = asked;
        flipped = sym (flips-asked observable errors (o - t.detectors) asked) ∙ ap (flipped_by_rows (retained observable) errors) o_is ∙ e.observed.2;
      }

  pub to-retained : (observable : Option ℕ) (errors : List ℕ) → IsLogicalOf observable t errors → IsLogicalError (with_observable observable t) errors
  to-retained observable errors e = record {
    inside = subst (λ m. All (λ r. r < m) errors) (sym (as-many-retained observable)) e.inside;
    undetected = λ d less.
        let before : d < t.detectors = subst (λ m. d < m) (same-detectors observable) less in
        flips-detector observable errors d before ∙ e.undetected d before;
    observed = (
      t.detectors + e.number,
      subst (λ d. d ≤ t.detectors + e.number) (sym (same-detectors observable)) (omega arith),
      flips-asked observable errors e.number e.asked ∙ e.flipped,
    );
  }

  -- a retained row names the detectors that the row names

  pub odd-detector : (observable : Option ℕ) (r d : ℕ) → d < t.detectors → odd d (row (retained observable) r) ≡ odd d (row t.rows r)
  odd-detector None r d less = refl
  odd-detector (Some j) r d less = ap (odd d) (row-retained j r) ∙ odd-passes (is_searched_number t.detectors j) d (retained-detector t.detectors j d less) (row t.rows r)
