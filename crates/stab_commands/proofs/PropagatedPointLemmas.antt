-- Flipped coins: pivots that are right for a run are right for one with other coins, and each run is any other one, inverted.
use Rattle.stab_commands.proofs.Names.{◌≡◌, ℕ, suc, ◌+◌, refl, sym, ◌∙◌, ap, subst, Bool, false, List, [], ◌∷◌, length, take, replicate, All, Option, Some, None, All-nil, All-take, Letter, parity-false, Signed, single, member, IsConjugated, length-one_letter, Items, Step, one, two, controlled, collapse, product, detector, observable, unroll, observables_of, State, start, run, run_of, string_of, Point, RunOutput, origin, coins_of, next_point, point_after, with_additions, StepFits, flips-random, flipped-zeros, length-string_of, identity_frame, IsFlippedRun, flips_over, pivots_of, coins_changed, IsPivotOf, IsRightAt, AreRight, pivot-conjugated, coins-flip, group-origin, conjugated-random, right-enough, enough-before, run-pivots, by_frame-same, over-by_frame, run-items, ShotBits, shot_bits_of, inverted, zero_coins}
use Rattle.stab_frames.specs.Flips.{flipped}

-- pivots

pivot-flipped : (n : ℕ) (g : List Letter) (u v : Signed → Bool) → IsConjugated n g u v → (m : Signed) → length m.letters ≡ n → (pivot : Option (List Letter))
    → IsPivotOf n u m pivot → IsPivotOf n v m pivot
pivot-flipped n g u v coin_flipped m size None right = conjugated-random n g u v coin_flipped m size ∙ right
pivot-flipped n g u v coin_flipped m size (Some s) right = pivot-conjugated n g u v coin_flipped m s right

module _ (n : ℕ) (strings : ℕ → Option (List Letter)) where
  right-at : (x : Step) (a b : Point) (g : List Letter) → IsConjugated n g (member a.trace) (member b.trace) → b.coin ≡ a.coin → IsRightAt n strings x a → IsRightAt n strings x b
  right-at (one g q) a b f coin_flipped coin right = tt
  right-at (two g p q) a b f coin_flipped coin right = tt
  right-at (controlled l k q) a b f coin_flipped coin right = tt
  right-at (collapse l q recorded inverted resets) a b f coin_flipped coin right =
      subst (λ t. IsPivotOf n (member b.trace) (single n q l) (strings t)) (sym coin)
      (pivot-flipped n f (member a.trace) (member b.trace) coin_flipped (single n q l) (length-one_letter n q l) (strings a.coin) right)
  right-at (product factors inverted) a b f coin_flipped coin right =
      subst (λ t. IsPivotOf n (member b.trace) (string_of n factors) (strings t)) (sym coin)
      (pivot-flipped n f (member a.trace) (member b.trace) coin_flipped (string_of n factors) (length-string_of n factors) (strings a.coin) right)
  right-at (detector ks) a b f coin_flipped coin right = tt
  right-at (observable j ks) a b f coin_flipped coin right = tt

  -- the strings that stabilise after each of the first steps differ by letters alone
  abbrev ArePropagatedOver : (coins others : ℕ → Bool) → List Step → Point → Point → Type 0
  ArePropagatedOver coins others xs a b =
      (m : ℕ) → (g : List Letter) × IsConjugated n g (member (point_after n coins (take m xs) a).trace) (member (point_after n others (take m xs) b).trace)

  right-flipped : (coins others : ℕ → Bool) (xs : List Step) (a b : Point) → b.coin ≡ a.coin → ArePropagatedOver coins others xs a b → AreRight n coins strings xs a
      → AreRight n others strings xs b
  right-flipped coins others [] a b coin coin_flipped right = tt
  right-flipped coins others (x ∷ xs) a b coin coin_flipped right = (
    right-at x a b (coin_flipped 0).0 (coin_flipped 0).1 coin right.0,
    right-flipped coins others xs (next_point n coins x a) (next_point n others x b) (ap (λ t. t + coins_of x) coin) (λ m. coin_flipped (suc m)) right.1,
  )

  -- what is right of the run with all coins 0 is right of each
  pub right-always : (coins : ℕ → Bool) (xs : List Step) → All (StepFits n) xs → AreRight n zero_coins strings xs origin → AreRight n coins strings xs origin
  right-always coins xs fits right =
      subst (λ others. AreRight n others strings xs origin) same
      (right-flipped zero_coins (coins_changed zero_coins coins) xs origin origin refl
      (λ m. (
        _,
        (over-by_frame n zero_coins (pivots_of strings coins) (take m xs) (identity_frame n 0) origin origin (All-take (StepFits n) m xs fits)
            (group-origin n zero_coins [] (All-nil (StepFits n)))
            (enough-before n zero_coins (pivots_of strings coins) m xs (identity_frame n 0) origin (right-enough n zero_coins (pivots_of strings coins) xs (identity_frame n 0) origin right))
            (by_frame-same n origin)).1.group,
      ))
      right)
    where
      same : coins_changed zero_coins coins ≡ coins
      same = λ i t. parity-false (coins t) i

-- runs

module _ (n : ℕ) (items : Items) (fits : All (StepFits n) (unroll items)) where
  abbrev xs : List Step
  xs = unroll items

  pub strings : (s : ℕ → Option (List Letter)) × AreRight n zero_coins s xs origin
  strings = run-pivots n zero_coins xs fits

  abbrev flips_over_all : (ℕ → Bool) → RunOutput
  flips_over_all changes = flips_over n (pivots_of strings.0 changes) xs 0 (identity_frame n 0)

  flipped-run : (coins changes : ℕ → Bool) → IsFlippedRun n coins (coins_changed coins changes) xs xs (flips_over_all changes)
  flipped-run coins changes =
      coins-flip n coins (pivots_of strings.0 changes) xs fits
      (right-enough n coins (pivots_of strings.0 changes) xs (identity_frame n 0) origin (right-always n strings.0 coins xs fits strings.1))

  is-run : (coins : ℕ → Bool) → run n coins xs (start (observables_of items)) ≡ run_of n coins items
  is-run coins = run-items n coins items xs (observables_of items) refl refl

  -- what changed coins flip, for all random bits
  abbrev pub flips_by : (ℕ → Bool) → ShotBits
  flips_by changes = record {
    records = (flips_over_all changes).records;
    detectors = (flips_over_all changes).detectors;
    observables = with_additions (flips_over_all changes).additions (replicate (observables_of items) false);
  }

  pub bits-changed : (coins changes : ℕ → Bool) → shot_bits_of (run_of n (coins_changed coins changes) items) ≡ inverted (shot_bits_of (run_of n coins items)) (flips_by changes)
  bits-changed coins changes =
      let is = flipped-run coins changes in
      ap shot_bits_of (sym (is-run (coins_changed coins changes)))
      ∙ (λ i. record { records = is.records (observables_of items) i; detectors = is.detectors (observables_of items) i; observables = is.observables (observables_of items) i })
      ∙ ap (λ (s : State). inverted (shot_bits_of s) (flips_by changes)) (is-run coins)

  random-changed : (coins changes : ℕ → Bool) → (run_of n (coins_changed coins changes) items).free ≡ (run_of n coins items).free
  random-changed coins changes =
      ap (λ (s : State). s.free) (sym (is-run (coins_changed coins changes)))
      ∙ (flipped-run coins changes).free (observables_of items)
      ∙ ap (flipped (run n coins xs (start (observables_of items))).free) (flips-random n (pivots_of strings.0 changes) xs 0 (identity_frame n 0))
      ∙ flipped-zeros (run n coins xs (start (observables_of items))).free _
      ∙ ap (λ (s : State). s.free) (is-run coins)

  all-changed : (coins : ℕ → Bool) → coins_changed zero_coins coins ≡ coins
  all-changed coins = λ i t. parity-false (coins t) i

  -- each run, by that with all coins 0
  pub bits-zero : (coins : ℕ → Bool) → shot_bits_of (run_of n coins items) ≡ inverted (shot_bits_of (run_of n zero_coins items)) (flips_by coins)
  bits-zero coins = ap (λ c. shot_bits_of (run_of n c items)) (sym (all-changed coins)) ∙ bits-changed zero_coins coins

  pub random-zero : (coins : ℕ → Bool) → (run_of n coins items).free ≡ (run_of n zero_coins items).free
  random-zero coins = ap (λ c. (run_of n c items).free) (sym (all-changed coins)) ∙ random-changed zero_coins coins
