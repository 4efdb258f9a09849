-- Runs of two circuits that differ by Pauli gates at one position.
use Rattle.stab_frames.proofs.Names.{◌≡◌, ℕ, ◌<◌, refl, sym, ◌∙◌, ap, subst, Bool, false, List, [], ◌∷◌, ◌++◌, length, map, replicate, length-replicate, All-head, All-tail, Letter, string_product, member, IsStabiliserGroup, group-zeros, Step, one, State, start, gate_of, run, Point, RunOutput, origin, nothing, joined, next_point, point_after, outputs, with_additions, StepFits, Matches, flipped, flipped_output, unflipped, Frame, PointsDifferBy, frame_of, RunPivots, coins_changed, frame_over, flips_over, AreEnough, letters_on, AreFronts, joined-nothing, after-append, outputs-append, run-state, records-are-records}
use Rattle.std.specs.Prelude.{All}
use Rattle.stab_frames.proofs.FlipLemmas.{flipped-joined, joined-matches, flipped-none, unflipped-output, unflipped-matches, additions-flipped}
use Rattle.stab_frames.proofs.StepLemmas.{group-next, outputs-matches, over-by_frame}
use Rattle.stab_frames.proofs.StartLemmas.{by_frame-exchanged, by_frame-gates}

-- the strings at a point of a run are a group

pub group-after : (n : ℕ) (coins : ℕ → Bool) (xs : List Step) (a : Point) → All (StepFits n) xs → IsStabiliserGroup n (member a.trace)
    → IsStabiliserGroup n (member (point_after n coins xs a).trace)
group-after n coins [] a fits group = group
group-after n coins (x ∷ xs) a fits group =
    group-after n coins xs (next_point n coins x a) (All-tail (StepFits n) x xs fits) (group-next n coins x a (All-head (StepFits n) x xs fits) group)

pub group-origin : (n : ℕ) (coins : ℕ → Bool) (xs : List Step) → All (StepFits n) xs → IsStabiliserGroup n (member (point_after n coins xs origin).trace)
group-origin n coins xs fits = group-after n coins xs origin fits (group-zeros n)

-- two fronts that differ by a frame, and the same steps after them

module _ (n : ℕ) (coins : ℕ → Bool) (pivots : RunPivots) (us vs xs : List Step) (f : Frame) (flips : RunOutput)
    (fits : All (StepFits n) us) (later : All (StepFits n) xs)
    (fronts : AreFronts n coins (coins_changed coins pivots.changes) us vs f flips)
    (enough : AreEnough n coins pivots xs f (point_after n coins us origin)) where
  abbrev whole : RunOutput
  whole = joined flips (flips_over n pivots xs (point_after n coins us origin).coin f)

  following : (outputs n (coins_changed coins pivots.changes) xs (point_after n (coins_changed coins pivots.changes) vs origin)
      ≡ flipped_output (outputs n coins xs (point_after n coins us origin)) (flips_over n pivots xs (point_after n coins us origin).coin f))
      × PointsDifferBy n (frame_over n pivots xs (point_after n coins us origin).coin f) (point_after n coins xs (point_after n coins us origin))
      (point_after n (coins_changed coins pivots.changes) xs (point_after n (coins_changed coins pivots.changes) vs origin))
  following =
      over-by_frame n coins pivots xs f (point_after n coins us origin) (point_after n (coins_changed coins pivots.changes) vs origin) later (group-origin n coins us fits) enough fronts.by_frame

  pub fronts-outputs : outputs n (coins_changed coins pivots.changes) (vs ++ xs) origin ≡ flipped_output (outputs n coins (us ++ xs) origin) whole
  fronts-outputs =
      outputs-append n (coins_changed coins pivots.changes) vs xs origin
      ∙ (λ i. joined (fronts.given i) (following.0 i))
      ∙ sym (flipped-joined (outputs n coins us origin) (outputs n coins xs (point_after n coins us origin)) flips
      (flips_over n pivots xs (point_after n coins us origin).coin f) fronts.matches)
      ∙ ap (λ o. flipped_output o whole) (sym (outputs-append n coins us xs origin))

  pub fronts-matches : Matches (outputs n coins (us ++ xs) origin) whole
  fronts-matches =
      subst (λ o. Matches o whole) (sym (outputs-append n coins us xs origin))
      (joined-matches (outputs n coins us origin) (outputs n coins xs (point_after n coins us origin)) flips
      (flips_over n pivots xs (point_after n coins us origin).coin f) fronts.matches
      (outputs-matches n coins pivots xs (point_after n coins us origin) (point_after n coins us origin).coin f))

  pub fronts-by_frame : PointsDifferBy n (frame_over n pivots xs (point_after n coins us origin).coin f) (point_after n coins (us ++ xs) origin) (point_after n (coins_changed coins pivots.changes) (vs ++ xs) origin)
  fronts-by_frame =
      subst (λ p. PointsDifferBy n (frame_over n pivots xs (point_after n coins us origin).coin f) p (point_after n (coins_changed coins pivots.changes) (vs ++ xs) origin)) (sym (after-append n coins us xs origin))
      (subst (PointsDifferBy n (frame_over n pivots xs (point_after n coins us origin).coin f) (point_after n coins xs (point_after n coins us origin)))
      (sym (after-append n (coins_changed coins pivots.changes) vs xs origin)) following.1)

-- Pauli gates give nothing

pub gates-give-nothing : (n : ℕ) (coins : ℕ → Bool) (l : Letter) (qs : List ℕ) (a : Point) → outputs n coins (map (one (gate_of l)) qs) a ≡ nothing
gates-give-nothing n coins l [] a = refl
gates-give-nothing n coins l (q ∷ qs) a = gates-give-nothing n coins l qs (next_point n coins (one (gate_of l) q) a)

following-gates : (n : ℕ) (coins : ℕ → Bool) (l : Letter) (qs : List ℕ) (xs : List Step) → outputs n coins (xs ++ map (one (gate_of l)) qs) origin ≡ outputs n coins xs origin
following-gates n coins l qs xs =
    outputs-append n coins xs (map (one (gate_of l)) qs) origin
    ∙ ap (joined (outputs n coins xs origin)) (gates-give-nothing n coins l qs (point_after n coins xs origin))
    ∙ joined-nothing (outputs n coins xs origin)

pub paulis-front : (n : ℕ) (coins : ℕ → Bool) (l m : Letter) (qs rs : List ℕ) → All (λ q. q < n) qs → All (λ q. q < n) rs → (xs : List Step)
    → PointsDifferBy n (frame_of (string_product (letters_on n l qs) (letters_on n m rs)) (length (point_after n coins xs origin).records))
    (point_after n coins (xs ++ map (one (gate_of l)) qs) origin) (point_after n coins (xs ++ map (one (gate_of m)) rs) origin)
paulis-front n coins l m qs rs left right xs =
    let f = frame_of (string_product (letters_on n l qs) (letters_on n m rs)) (length (point_after n coins xs origin).records) in
    subst (λ p. PointsDifferBy n f p (point_after n coins (xs ++ map (one (gate_of m)) rs) origin)) (sym (after-append n coins xs (map (one (gate_of l)) qs) origin))
    (subst (PointsDifferBy n f (point_after n coins (map (one (gate_of l)) qs) (point_after n coins xs origin))) (sym (after-append n coins xs (map (one (gate_of m)) rs) origin))
    (by_frame-exchanged n coins l m qs rs left right (point_after n coins xs origin)))

pub paulis-given : (n : ℕ) (coins : ℕ → Bool) (l m : Letter) (qs rs : List ℕ) (xs : List Step)
    → outputs n coins (xs ++ map (one (gate_of m)) rs) origin
    ≡ flipped_output (outputs n coins (xs ++ map (one (gate_of l)) qs) origin) (unflipped (outputs n coins xs origin))
paulis-given n coins l m qs rs xs =
    following-gates n coins m rs xs ∙ sym (unflipped-output (outputs n coins xs origin))
    ∙ ap (λ o. flipped_output o (unflipped (outputs n coins xs origin))) (sym (following-gates n coins l qs xs))

pub paulis-match : (n : ℕ) (coins : ℕ → Bool) (l : Letter) (qs : List ℕ) (xs : List Step)
    → Matches (outputs n coins (xs ++ map (one (gate_of l)) qs) origin) (unflipped (outputs n coins xs origin))
paulis-match n coins l qs xs =
    subst (λ o. Matches o (unflipped (outputs n coins xs origin))) (sym (following-gates n coins l qs xs)) (unflipped-matches (outputs n coins xs origin))

-- if fronts differ by a frame, Pauli gates after each multiply their letters onto it

module _ (n : ℕ) (coins others : ℕ → Bool) (us vs : List Step) (f : Frame) (flips : RunOutput) (l m : Letter) (qs rs : List ℕ)
    (left : All (λ q. q < n) qs) (right : All (λ q. q < n) rs) (fronts : AreFronts n coins others us vs f flips) where
  abbrev olds : List Step
  olds = map (one (gate_of l)) qs

  abbrev news : List Step
  news = map (one (gate_of m)) rs

  pub gates-by_frame : PointsDifferBy n (record f { letters = string_product f.letters (string_product (letters_on n l qs) (letters_on n m rs)) })
      (point_after n coins (us ++ olds) origin) (point_after n others (vs ++ news) origin)
  gates-by_frame =
      subst (λ x. x)
      (λ i. PointsDifferBy n (record f { letters = string_product f.letters (string_product (letters_on n l qs) (letters_on n m rs)) }) (sym (after-append n coins us olds origin) i) (sym (after-append n others vs news origin) i))
      (by_frame-gates n coins others l m qs rs left right f (point_after n coins us origin) (point_after n others vs origin) fronts.by_frame)

  pub gates-given : outputs n others (vs ++ news) origin ≡ flipped_output (outputs n coins (us ++ olds) origin) flips
  gates-given =
      following-gates n others m rs vs
      ∙ fronts.given
      ∙ ap (λ o. flipped_output o flips) (sym (following-gates n coins l qs us))

  pub gates-match : Matches (outputs n coins (us ++ olds) origin) flips
  gates-match = subst (λ o. Matches o flips) (sym (following-gates n coins l qs us)) fronts.matches

-- what a whole run shows, if its output is flipped

records-shown : (n : ℕ) (coins : ℕ → Bool) (xs : List Step) (k : ℕ) → (run n coins xs (start k)).records ≡ (outputs n coins xs origin).records
records-shown n coins xs k = ap (λ (s : State). s.records) (run-state n coins xs (start k)) ∙ sym (records-are-records n coins xs)

module _ (n : ℕ) (coins others : ℕ → Bool) (xs ys : List Step) (k : ℕ) (flips : RunOutput)
    (given : outputs n others ys origin ≡ flipped_output (outputs n coins xs origin) flips) (matches : Matches (outputs n coins xs origin) flips) where
  pub records-flipped : (run n others ys (start k)).records ≡ flipped (run n coins xs (start k)).records flips.records
  records-flipped =
      records-shown n others ys k ∙ ap (λ (o : RunOutput). o.records) given ∙ ap (λ r. flipped r flips.records) (sym (records-shown n coins xs k))

  pub randomness-flipped : (run n others ys (start k)).free ≡ flipped (run n coins xs (start k)).free flips.free
  randomness-flipped =
      ap (λ (s : State). s.free) (run-state n others ys (start k)) ∙ ap (λ (o : RunOutput). o.free) given
      ∙ ap (λ r. flipped r flips.free) (sym (ap (λ (s : State). s.free) (run-state n coins xs (start k))))

  pub detectors-flipped : (run n others ys (start k)).detectors ≡ flipped (run n coins xs (start k)).detectors flips.detectors
  detectors-flipped =
      ap (λ (s : State). s.detectors) (run-state n others ys (start k)) ∙ ap (λ (o : RunOutput). o.detectors) given
      ∙ ap (λ r. flipped r flips.detectors) (sym (ap (λ (s : State). s.detectors) (run-state n coins xs (start k))))

  pub observables-flipped : (run n others ys (start k)).observables
      ≡ flipped (run n coins xs (start k)).observables (with_additions flips.additions (replicate k false))
  observables-flipped =
      ap (λ (s : State). s.observables) (run-state n others ys (start k))
      ∙ ap (λ (o : RunOutput). with_additions o.additions (replicate k false)) given
      ∙ ap (with_additions (flipped_output (outputs n coins xs origin) flips).additions) (sym none)
      ∙ additions-flipped (outputs n coins xs origin).additions flips.additions (replicate k false) (replicate k false) matches.observables refl
      ∙ ap (λ r. flipped r (with_additions flips.additions (replicate k false))) (sym (ap (λ (s : State). s.observables) (run-state n coins xs (start k))))
    where
      none : flipped (replicate k false) (replicate k false) ≡ replicate k false
      none =
          ap (λ m. flipped (replicate k false) (replicate m false)) (sym (length-replicate k false)) ∙ flipped-none (replicate k false)
