-- Runs of lanes: lanes that are propagated over the steps of a run with all coins 0, stretch by stretch, are runs.
use Rattle.stab_sampler.proofs.Names.{◌≡◌, ℕ, ◌+◌, refl, sym, ◌∙◌, ap, subst, Bool, false, List, [], ◌∷◌, ◌++◌, length, replicate, set, get_or, arith, Option, length-replicate, length-set, replicate-append-replicate, Letter, I, ◌⊕◌, parity-false, Items, Step, unroll, observables_of, Addition, Shot, State, start, run, run_of, RunOutput, nothing, origin, joined, point_after, outputs, all_coins_of, with_additions, state_at, StepFits, run-state, records-are-records, flipped, Frame, AreFronts, RunPivots, pivots_of, coins_changed, AreRight, AreEnough, frame_over, flips_over, right-enough, coins-append, coins-are, by_frame-same, fronts-outputs, fronts-matches, fronts-by_frame, records-flipped, randomness-flipped, detectors-flipped, observables-flipped, Shots, AreRuns, IsShot, zero_coins, Difference, frame_of_difference, next_coin, DiffersAlong, IsLane, IsAsLong, AreFlipped, without_outcomes}
use Rattle.std.specs.Prelude.{All}
use Rattle.stab_sampler.proofs.RecordingLemmas.{run-items}
use Rattle.stab_recording.proofs.FlippedLemmas.{flips-random, flipped-zeros}

-- a lane before the first step
pub lane-first : (n : ℕ) (coins : ℕ → Bool) (d : Difference) → d.letters ≡ replicate n I → d.flips ≡ nothing → IsLane n coins [] d
lane-first n coins d blank empty =
    subst (λ x. x) (λ i. IsLane n coins [] (record { letters = sym blank i; flips = sym empty i })) (record {
      flips = nothing;
      preserved = refl;
      fronts = record {
        by_frame = by_frame-same n origin;
        given = refl;
        matches = record { records = refl; free = refl; outcomes = refl; detectors = refl; observables = refl };
      };
      still = refl;
    })

-- and after further steps, of which pivots are right
module _ (n : ℕ) (coins : ℕ → Bool) (xs ys : List Step) (fits : All (StepFits n) xs) (later : All (StepFits n) ys) (strings : ℕ → Option (List Letter))
    (right : AreRight n zero_coins strings ys (point_after n zero_coins xs origin)) (a b : Difference) (lane : IsLane n coins xs a)
    (advanced : DiffersAlong n (pivots_of strings coins) ys a b) where
  abbrev pivots : RunPivots
  pivots = pivots_of strings coins

  abbrev f : Frame
  f = frame_of_difference a

  abbrev p : ℕ
  p = (point_after n zero_coins xs origin).coin

  enough : AreEnough n zero_coins pivots ys f (point_after n zero_coins xs origin)
  enough = right-enough n zero_coins pivots ys f (point_after n zero_coins xs origin) right

  coin : next_coin a ≡ p
  coin =
      ap length lane.still
      ∙ length-replicate (all_coins_of xs) false
      ∙ before (all_coins_of xs)
      ∙ sym (coins-are n zero_coins xs origin)
    where
      before : (k : ℕ) → k ≡ 0 + k
      before k = omega arith

  frame : frame_of_difference b ≡ frame_over n pivots ys p f
  frame = advanced.frame ∙ ap (λ c. frame_over n pivots ys c f) coin

  flips : b.flips ≡ joined a.flips (without_outcomes (flips_over n pivots ys p f))
  flips = advanced.flips ∙ ap (λ c. joined a.flips (without_outcomes (flips_over n pivots ys c f))) coin

  further : AreFronts n zero_coins (coins_changed zero_coins coins) (xs ++ ys) (xs ++ ys) (frame_over n pivots ys p f) (joined lane.flips (flips_over n pivots ys p f))
  further = record {
    by_frame = fronts-by_frame n zero_coins pivots xs xs ys f lane.flips fits later lane.fronts enough;
    given = fronts-outputs n zero_coins pivots xs xs ys f lane.flips fits later lane.fronts enough;
    matches = fronts-matches n zero_coins pivots xs xs ys f lane.flips fits later lane.fronts enough;
  }

  pub lane-further : IsLane n coins (xs ++ ys) b
  lane-further = record {
    flips = joined lane.flips (flips_over n pivots ys p f);
    fronts = subst (λ g. AreFronts n zero_coins (coins_changed zero_coins coins) (xs ++ ys) (xs ++ ys) g (joined lane.flips (flips_over n pivots ys p f))) (sym frame) further;
    preserved = flips ∙ ap (λ o. joined o (without_outcomes (flips_over n pivots ys p f))) lane.preserved;
    still =
        ap (λ (o : RunOutput). o.free) flips
        ∙ (λ i. lane.still i ++ flips-random n pivots ys p f i)
        ∙ replicate-append-replicate (all_coins_of xs) (all_coins_of ys) false
        ∙ ap (λ k. replicate k false) (sym (coins-append xs ys));
  }

-- additions leave as many observables
pub length-added : (more : List Addition) (bits : List Bool) → length (with_additions more bits) ≡ length bits
length-added [] bits = refl
length-added (a ∷ more) bits =
    length-added more (set bits a.observable (a.bit ⊕ get_or bits a.observable false)) ∙ length-set bits a.observable (a.bit ⊕ get_or bits a.observable false)

-- a lane after all steps, beside the shot with all coins 0

module _ (n : ℕ) (coins : ℕ → Bool) (items : Items) (shot : Shot) (is : IsShot n zero_coins items shot) (count : ℕ) (number : count ≡ observables_of items)
    (d : Difference) (lane : IsLane n coins (unroll items) d) where
  abbrev xs : List Step
  xs = unroll items

  same_coins : coins_changed zero_coins coins ≡ coins
  same_coins = λ i t. parity-false (coins t) i

  lane_state : run n (coins_changed zero_coins coins) xs (start count) ≡ run_of n coins items
  lane_state = (λ i. run n (same_coins i) xs (start count)) ∙ run-items n coins items xs count refl number

  zero_state : run n zero_coins xs (start count) ≡ run_of n zero_coins items
  zero_state = run-items n zero_coins items xs count refl number

  following : run n zero_coins xs (start count) ≡ state_at (point_after n zero_coins xs origin) (outputs n zero_coins xs origin) (start count)
  following = run-state n zero_coins xs (start count)

  pub as-long : IsAsLong count shot d.flips
  as-long = subst (IsAsLong count shot) (sym lane.preserved) (record {
    records =
        lane.fronts.matches.records
        ∙ ap length (records-are-records n zero_coins xs ∙ sym (ap (λ (s : State). s.records) following) ∙ ap (λ (s : State). s.records) zero_state ∙ sym is.records);
    detectors =
        lane.fronts.matches.detectors
        ∙ ap length (sym (ap (λ (s : State). s.detectors) following) ∙ ap (λ (s : State). s.detectors) zero_state ∙ sym is.detectors);
    observables =
        sym (length-added (outputs n zero_coins xs origin).additions (replicate count false) ∙ length-replicate count false)
        ∙ ap length (sym (ap (λ (s : State). s.observables) following) ∙ ap (λ (s : State). s.observables) zero_state ∙ sym is.observables);
  })

  pub lane-runs : {W : Type 0} (at : W → ℕ → Bool) (l : ℕ) (shots : Shots W) → AreFlipped at l count shot d.flips shots → AreRuns at l n coins items shots
  lane-runs at l shots flipped_so =
      let are = subst (λ o. AreFlipped at l count shot o shots) lane.preserved flipped_so in record {
        records =
            are.records
            ∙ ap (λ bits. flipped bits lane.flips.records) (is.records ∙ sym (ap (λ (s : State). s.records) zero_state))
            ∙ sym (records-flipped n zero_coins (coins_changed zero_coins coins) xs xs count lane.flips lane.fronts.given lane.fronts.matches)
            ∙ ap (λ (s : State). s.records) lane_state;
        free =
            are.free
            ∙ is.free
            ∙ sym (ap (λ (s : State). s.free) zero_state)
            ∙ sym (flipped-zeros (run n zero_coins xs (start count)).free (all_coins_of xs))
            ∙ ap (flipped (run n zero_coins xs (start count)).free) (sym (ap (λ (o : RunOutput). o.free) (sym lane.preserved) ∙ lane.still))
            ∙ sym (randomness-flipped n zero_coins (coins_changed zero_coins coins) xs xs count lane.flips lane.fronts.given lane.fronts.matches)
            ∙ ap (λ (s : State). s.free) lane_state;
        detectors =
            are.detectors
            ∙ ap (λ bits. flipped bits lane.flips.detectors) (is.detectors ∙ sym (ap (λ (s : State). s.detectors) zero_state))
            ∙ sym (detectors-flipped n zero_coins (coins_changed zero_coins coins) xs xs count lane.flips lane.fronts.given lane.fronts.matches)
            ∙ ap (λ (s : State). s.detectors) lane_state;
        observables =
            are.observables
            ∙ ap (λ bits. flipped bits (with_additions lane.flips.additions (replicate count false))) (is.observables ∙ sym (ap (λ (s : State). s.observables) zero_state))
            ∙ sym (observables-flipped n zero_coins (coins_changed zero_coins coins) xs xs count lane.flips lane.fronts.given lane.fronts.matches)
            ∙ ap (λ (s : State). s.observables) lane_state;
      }
