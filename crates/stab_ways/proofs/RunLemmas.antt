-- Runs: what a string that is put in flips in them.
use Rattle.stab_ways.proofs.Names.{◌≡◌, ℕ, ◌+◌, ◌-◌, ◌<◌, ◌≤◌, refl, sym, ◌∙◌, ap, subst, Bool, false, ◌&&◌, List, [], ◌∷◌, ◌++◌, length, take, drop, All, replicate, get_or, arith, take-take, take-append-drop, All-take, All-nil, All-drop, Letter, I, string_product, string_product-blank, ◌⊕◌, member, IsConjugated, Step, records_of, State, start, run, Point, RunOutput, origin, nothing, all_coins_of, point_after, outputs, StepFits, coins-are, randomness-counted, outputs-append, run-state, length-replicate, drop-take, Frame, frame_of, identity_frame, AreFronts, IsFlippedRun, by_frame-same, flipped-run, letter_gates, with_string_in, way_over, way_flips, frame_begun, string_after, string_flips, coins_with, StringsFlipRuns, LettersFlipRuns, FixedOutcomesKeepCoins, append_assoc, gate_of, one, single, length-one_letter}
use Rattle.stab_ways.proofs.EnoughLemmas.{Differ, differ-front, get_or-following, get_or-front, long-flips}
use Rattle.stab_ways.proofs.BlankLemmas.{blank-over}
use Rattle.stab_ways.proofs.FirstStepLemmas.{fronts-way}
use Rattle.stab_ways.proofs.GateLemmas.{product-whole, letter-put, letters-put}

-- a flag for each coin
long-randomness : (n : ℕ) (coins : ℕ → Bool) (xs : List Step) → length (outputs n coins xs origin).free ≡ all_coins_of xs
long-randomness n coins xs = omega (arith, randomness-counted n coins xs origin, coins-are n coins xs origin)

module _ (n k : ℕ) (string : List Letter) (xs : List Step) (coins : ℕ → Bool) (fits : All (StepFits n) xs) (size : length string ≡ n) where
  abbrev front : List Step
  front = take k xs

  abbrev back : List Step
  back = drop k xs

  abbrev front_flips : RunOutput
  front_flips = way_flips n front (identity_frame n 0)

  abbrev begun : Frame
  begun = frame_begun k string xs

  abbrev randomness : List Bool
  randomness = (run n coins xs (start 0)).free

  abbrev flips : List Bool
  flips = (string_flips n k string xs).outcomes

  abbrev changes : ℕ → Bool
  changes t = get_or randomness t false && get_or flips t false

  abbrev others : ℕ → Bool
  others = coins_with n k string xs coins

  abbrev there : Point
  there = point_after n coins front origin

  fits-front : All (StepFits n) front
  fits-front = All-take (StepFits n) k xs fits

  fits-back : All (StepFits n) back
  fits-back = All-drop (StepFits n) k xs fits

  -- the randomness in two parts
  randomness-parts : randomness ≡ (outputs n coins front origin).free ++ (outputs n coins back there).free
  randomness-parts =
      ap (λ (s : State). s.free) (run-state n coins xs (start 0))
      ∙ ap (λ ys. (outputs n coins ys origin).free) (sym (take-append-drop k xs))
      ∙ ap (λ (o : RunOutput). o.free) (outputs-append n coins front back origin)

  differ-begin : Differ n coins changes front (identity_frame n 0) origin
  differ-begin t lt =
      let none : 0 + t ≡ t = omega arith in
      ap changes none
      ∙ (λ i. (ap (λ fs. get_or fs t false) randomness-parts ∙ get_or-front (outputs n coins front origin).free (outputs n coins back there).free t
      (subst (λ m. t < m) (sym (long-randomness n coins front)) lt)) i
      && get_or-front front_flips.outcomes (way_flips n back begun).outcomes t (subst (λ m. t < m) (sym (long-flips n front (identity_frame n 0))) lt) i)

  differ-back : Differ n coins changes back begun there
  differ-back t lt =
      ap (λ c. changes (c + t)) coin
      ∙ (λ i. (ap (λ fs. get_or fs (all_coins_of front + t) false) randomness-parts
      ∙ get_or-following (outputs n coins front origin).free (outputs n coins back there).free (all_coins_of front) t (long-randomness n coins front)) i
      && get_or-following front_flips.outcomes (way_flips n back begun).outcomes (all_coins_of front) t (long-flips n front (identity_frame n 0)) i)
    where
      coin : there.coin ≡ all_coins_of front
      coin = omega (arith, coins-are n coins front origin)

  -- where the string is put in

  before : AreFronts n coins others front front (way_over n front (identity_frame n 0)) front_flips
  before =
      fronts-way n coins changes front [] [] (identity_frame n 0) nothing (All-nil (StepFits n)) fits-front
      (record { by_frame = by_frame-same n origin; given = refl; matches = record { records = refl; free = refl; outcomes = refl; detectors = refl; observables = refl } })
      differ-begin

  none-more : 0 + records_of front ≡ records_of front
  none-more = omega arith

  before-blank : AreFronts n coins others front front (identity_frame n (records_of front)) front_flips
  before-blank = subst (λ f. AreFronts n coins others front front f front_flips) (blank-over n front 0 ∙ ap (identity_frame n) none-more) before

  put : AreFronts n coins others front (front ++ letter_gates 0 string) begun front_flips
  put =
      subst (λ s. AreFronts n coins others front (front ++ letter_gates 0 string) (frame_of s (records_of front)) front_flips)
      (ap (string_product (replicate n I)) (product-whole n string size) ∙ string_product-blank n string size)
      (letters-put n coins others front front_flips front (identity_frame n (records_of front)) 0 string (length-replicate n I) (omega (arith, size)) before-blank)

  -- over the first steps after it

  abbrev part : ℕ → List Step
  part m = drop k (take m xs)

  part-is : (m : ℕ) → k ≤ m → part m ≡ take (m - k) back
  part-is m le = let whole : m ≡ k + (m - k) = omega (arith, le) in ap part whole ∙ drop-take k (m - k) xs

  differ-part : (m : ℕ) → k ≤ m → Differ n coins changes (part m) begun there
  differ-part m le =
      subst (λ ys. Differ n coins changes ys begun there) (sym (part-is m le))
      (differ-front n coins changes (take (m - k) back) (drop (m - k) back) begun there
      (subst (λ ys. Differ n coins changes ys begun there) (sym (take-append-drop (m - k) back)) differ-back))

  fits-part : (m : ℕ) → All (StepFits n) (part m)
  fits-part m = All-drop (StepFits n) k (take m xs) (All-take (StepFits n) m xs fits)

  front-is : (m : ℕ) → k ≤ m → front ≡ take k (take m xs)
  front-is m le = sym (take-take k m xs le)

  states : (m : ℕ) → k ≤ m → IsConjugated n (string_after n k string xs m) (member (point_after n coins (take m xs) origin).trace)
      (member (point_after n others (with_string_in k string (take m xs)) origin).trace)
  states m le =
      let shown = (fronts-way n coins changes (part m) front (front ++ letter_gates 0 string) begun front_flips fits-front (fits-part m) put (differ-part m le)).by_frame.group in
      subst (λ ys. IsConjugated n (string_after n k string xs m) (member (point_after n coins ys origin).trace) (member (point_after n others (with_string_in k string (take m xs)) origin).trace))
      (ap (λ us. us ++ part m) (front-is m le) ∙ take-append-drop k (take m xs))
      (subst (λ us. IsConjugated n (string_after n k string xs m) (member (point_after n coins (front ++ part m) origin).trace)
      (member (point_after n others ((us ++ letter_gates 0 string) ++ part m) origin).trace)) (front-is m le) shown)

  whole : (vs : List Step) → AreFronts n coins others front vs begun front_flips → IsFlippedRun n coins others xs (vs ++ back) (string_flips n k string xs)
  whole vs there =
      let all = fronts-way n coins changes back front vs begun front_flips fits-front fits-back there differ-back in
      subst (λ ys. IsFlippedRun n coins others ys (vs ++ back) (string_flips n k string xs)) (take-append-drop k xs)
      (flipped-run n coins others (front ++ back) (vs ++ back) (string_flips n k string xs) all.given all.matches)

pub strings-flip : StringsFlipRuns
strings-flip n k string xs coins fits size = record {
  run = whole n k string xs coins fits size (take k xs ++ letter_gates 0 string) (put n k string xs coins fits size);
  states = states n k string xs coins fits size;
}

pub letters-flip : LettersFlipRuns
letters-flip n k l q xs coins fits lt =
    subst (λ ys. IsFlippedRun n coins (coins_with n k string xs coins) xs ys (string_flips n k string xs)) (append_assoc (take k xs) (g ∷ []) (drop k xs))
    (whole n k string xs coins fits size (take k xs ++ g ∷ [])
    (subst (λ s. AreFronts n coins (coins_with n k string xs coins) (take k xs) (take k xs ++ g ∷ []) (frame_of s (records_of (take k xs))) (front_flips n k string xs coins fits size))
    (string_product-blank n string size)
    (letter-put n coins (coins_with n k string xs coins) (take k xs) (front_flips n k string xs coins fits size) (take k xs) (identity_frame n (records_of (take k xs))) l q lt
    (before-blank n k string xs coins fits size))))
  where
    g : Step
    g = one (gate_of l) q

    string : List Letter
    string = (single n q l).letters

    size : length string ≡ n
    size = length-one_letter n q l

pub fixed-coins : FixedOutcomesKeepCoins
fixed-coins n k string xs coins fixed t = ap (λ b. (b && get_or (string_flips n k string xs).outcomes t false) ⊕ coins t) (fixed t)
