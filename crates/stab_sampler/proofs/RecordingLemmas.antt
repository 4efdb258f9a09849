-- Recordings: where a run goes over further steps, what it gives, and what is recorded of them.
use Rattle.stab_sampler.proofs.Names.{◌≡◌, ℕ, zero, suc, ◌+◌, ◌≤◌, min, refl, sym, ◌∙◌, ap, subst, Bool, false, List, [], ◌++◌, append-nil, length, take, drop, replicate, arith, None, slice_get, take-append_seam, drop-append_seam, slice_get_past, Signed, Items, Step, unroll, observables_of, Shot, ones, State, start, run, run_of, Point, RunOutput, joined, origin, point_after, outputs, all_coins_of, with_additions, state_at, ProgramState, IsAt, ProgramComesTo, IsRun, after-append, outputs-append, ones-append, run-state, records-are-records, coins-steps, coins-are, PivotsState, pivot_at, IsNumbered, AreTrue, KeepsTrue, AreRight, true-none, true-rest, ones-few, zero_coins, IsShot}
use Rattle.std.proofs.Common.{length-append}
use Rattle.std.specs.Prelude.{slice_index_or}
use Rattle.stab_sampler.proofs.PivotLemmas.{right-from}
use Rattle.stab_frames.proofs.PivotAtLemmas.{if-none}

-- if no string is stored there is no pivot

no-pivot : (free : List Bool) (t : ℕ) → pivot_at [] free t ≡ None
no-pivot free t = if-none (slice_index_or free t false) (slice_get [] (ones (take t free))) (slice_get_past [] (ones (take t free)) (omega arith))

-- randomness that is 0
pub ones-zeros : (k : ℕ) → ones (replicate k false) ≡ 0
ones-zeros zero = refl
ones-zeros (suc k) = ones-zeros k

-- a run that went over the steps xs, and whose randomness is made 0, goes over further steps

module _ (n : ℕ) (xs ys : List Step) (u : Signed → Bool) (o : RunOutput) (zeros randomness : List Bool) (new : ProgramState)
    (here : IsAt n (record { stabilised = u; output = o }) (point_after n zero_coins xs origin)) (count : length zeros ≡ length o.free) (none : ones zeros ≡ 0)
    (is : IsRun n zero_coins ys (record { stabilised = u; output = record o { free = zeros } }) new) where
  abbrev p : Point
  p = point_after n zero_coins xs origin

  abbrev mid : ProgramState
  mid = record { stabilised = u; output = record o { free = zeros } }

  abbrev more : RunOutput
  more = outputs n zero_coins ys p

  begun : IsAt n mid p
  begun = record { group = here.group; coin = count ∙ here.coin; records = here.records }

  advanced : ProgramComesTo n zero_coins ys mid new p
  advanced = is p begun

  coin : length zeros ≡ all_coins_of xs
  coin = let none_before : 0 + all_coins_of xs ≡ all_coins_of xs = omega arith in begun.coin ∙ coins-are n zero_coins xs origin ∙ none_before

  randomness-new : new.output.free ≡ zeros ++ more.free
  randomness-new = ap (λ (o : RunOutput). o.free) advanced.output

  determined-following : drop (length zeros) new.output.free ≡ more.free
  determined-following = ap (drop (length zeros)) randomness-new ∙ drop-append_seam zeros more.free

  pub arrives : IsAt n new (point_after n zero_coins (xs ++ ys) origin)
  arrives = subst (IsAt n new) (sym (after-append n zero_coins xs ys origin)) advanced.shows

  pub gives : (determined : List Bool) → determined ≡ randomness ++ drop (length zeros) new.output.free → record o { free = randomness } ≡ outputs n zero_coins xs origin
      → record new.output { free = determined } ≡ outputs n zero_coins (xs ++ ys) origin
  gives determined is_determined gave =
      (λ i. record (advanced.output i) { free = (is_determined ∙ ap (λ bits. randomness ++ bits) determined-following) i })
      ∙ ap (λ (o : RunOutput). joined o more) gave
      ∙ sym (outputs-append n zero_coins xs ys origin)

  pub determined-random : drop (all_coins_of xs) new.output.free ≡ more.free
  determined-random = ap (λ k. drop k new.output.free) (sym coin) ∙ determined-following

  pub others-not : ones (take (all_coins_of xs) new.output.free) ≡ 0
  others-not =
      (λ i. ones (take (sym coin i) (randomness-new i)))
      ∙ ap ones (take-append_seam zeros more.free)
      ∙ none

  pub random-few : ones new.output.free ≤ length ys
  random-few =
      let parts = ap ones randomness-new ∙ ones-append zeros more.free in
      let long = ap length randomness-new ∙ length-append zeros more.free in
      omega (arith, parts, none, ones-few more.free, long, advanced.shows.coin, coins-are n zero_coins ys p, begun.coin, coins-steps ys)

  -- if the strings of other steps were let go

  module _ (stored following : PivotsState) (empty : stored.strings ≡ []) (recorded_pivots : KeepsTrue n zero_coins ys stored following mid new) where
    numbered : IsNumbered stored zeros
    numbered = let zero = ap length empty in omega (arith, zero, none)

    nothing-recorded_pivots : AreTrue n zero_coins (pivot_at stored.strings zeros) xs origin
    nothing-recorded_pivots = true-none n zero_coins (pivot_at stored.strings zeros) xs origin (λ t le. ap (λ s. pivot_at s zeros t) empty ∙ no-pivot zeros t)

    true-following : IsNumbered following new.output.free × AreTrue n zero_coins (pivot_at following.strings new.output.free) (xs ++ ys) origin
    true-following = recorded_pivots xs begun numbered nothing-recorded_pivots

    pub strings-numbered : length following.strings ≡ min (ones new.output.free) following.most
    strings-numbered = true-following.0

    pub strings-right : length following.strings ≡ ones new.output.free → AreRight n zero_coins (pivot_at following.strings new.output.free) ys p
    strings-right all =
        right-from n zero_coins following.strings new.output.free all ys p
        (true-rest n zero_coins (pivot_at following.strings new.output.free) xs ys origin true-following.1) []
        (ap (λ k. drop k new.output.free) (sym begun.coin) ∙ determined-following ∙ sym (append-nil more.free))

-- the run of all steps of items is the run of the items
pub run-items : (n : ℕ) (coins : ℕ → Bool) (items : Items) (xs : List Step) (count : ℕ) → xs ≡ unroll items → count ≡ observables_of items
    → run n coins xs (start count) ≡ run_of n coins items
unfolding run_of
run-items n coins items xs count steps number = λ i. run n coins (steps i) (start (number i))

-- what all steps gave, as a shot
module _ (n : ℕ) (coins : ℕ → Bool) (items : Items) (o : RunOutput) (gathered : o ≡ outputs n coins (unroll items) origin) where
  same_state : state_at (point_after n coins (unroll items) origin) (outputs n coins (unroll items) origin) (start (observables_of items)) ≡ run_of n coins items
  same_state = sym (run-state n coins (unroll items) (start (observables_of items))) ∙ run-items n coins items (unroll items) (observables_of items) refl refl

  pub randomness-run : o.free ≡ (run_of n coins items).free
  randomness-run = ap (λ (o : RunOutput). o.free) gathered ∙ ap (λ (s : State). s.free) same_state

  pub shot-run : (shot : Shot) → shot.records.items ≡ o.records → shot.free.items ≡ o.free → shot.detectors.items ≡ o.detectors
      → shot.observables.items ≡ with_additions o.additions (replicate (observables_of items) false) → IsShot n coins items shot
  shot-run shot records free detectors observables = record {
    records = records ∙ ap (λ (o : RunOutput). o.records) gathered ∙ records-are-records n coins (unroll items) ∙ ap (λ (s : State). s.records) same_state;
    free = free ∙ randomness-run;
    detectors = detectors ∙ ap (λ (o : RunOutput). o.detectors) gathered ∙ ap (λ (s : State). s.detectors) same_state;
    observables =
        observables
        ∙ ap (λ (o : RunOutput). with_additions o.additions (replicate (observables_of items) false)) gathered
        ∙ ap (λ (s : State). s.observables) same_state;
  }
