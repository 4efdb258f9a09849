-- Frames: what a step makes of one, and what steps make of one.
use Rattle.stab_frames.proofs.Names.{◌≡◌, ℕ, ◌+◌, ◌<◌, refl, sym, ◌∙◌, ap, subst, Bool, true, false, ◌&&◌, List, [], ◌∷◌, ◌++◌, length, arith, length-append, All-head, All-tail, Letter, ◌⊕◌, Signed, single, inverse, back, back_pair, Event, projected, member, is_random, IsStabiliserGroup, IsConjugated, length-one_letter, IsSymmetry-image, IsSymmetry-pair, image-length, pair-length, group-back, group-projected, outcome-only, Step, one, two, controlled, collapse, product, detector, observable, looked_up, parity, when, string_of, gate_of, flip_of, applied_where, outcome_at, Point, nothing, joined, given, trace_after, coins_of, next_point, outputs, StepFits, flipped_output, Matches, plus, Frame, PointsDifferBy, times_where, RunPivots, coins_changed, IsEnough, flips_outcome, letters_measured, letters_after, flips_given, frame_after, flips_over, IsEnoughAt, StepsKeepFrames, RunsKeepFrames, length-string_of}
use Rattle.stab_frames.proofs.PropagatedPointLemmas.{conjugated-applied, conjugated-applied_pair, conjugated-where, length-times}
use Rattle.stab_frames.proofs.MeasuredLemmas.{conjugated-random, outcome-flipped, measured-conjugated, length-measured}
use Rattle.stab_frames.proofs.FlipLemmas.{looked_up-flipped, parity-flipped, flipped-append, flipped-joined, joined-matches, flipped-when, and-parity, same-when}

-- the strings at a point are a group, and so they are after a step

group-applied : (n : ℕ) (bit : Bool) (l : Letter) (q : ℕ) (t : List Event) → IsStabiliserGroup n (member t) → IsStabiliserGroup n (member (applied_where bit l q t))
group-applied n true l q t g = group-back n (member t) (back (gate_of l) q) g (IsSymmetry-image n (inverse (gate_of l)) q)
group-applied n false l q t g = g

group-measured : (n : ℕ) (coins : ℕ → Bool) (m : Signed) → length m.letters ≡ n → (a : Point) → IsStabiliserGroup n (member a.trace)
    → IsStabiliserGroup n (member (projected m (outcome_at coins m a.trace a.coin) ∷ a.trace))
group-measured n coins m size a g =
    group-projected n (member a.trace) g m (outcome_at coins m a.trace a.coin) size (outcome-only n (member a.trace) g m size (coins a.coin))

pub group-next : (n : ℕ) (coins : ℕ → Bool) (x : Step) (a : Point) → StepFits n x → IsStabiliserGroup n (member a.trace)
    → IsStabiliserGroup n (member (trace_after n coins x a))
group-next n coins (one g q) a fits group = group-back n (member a.trace) (back g q) group (IsSymmetry-image n (inverse g) q)
group-next n coins (two g p q) a fits group = group-back n (member a.trace) (back_pair g p q) group (IsSymmetry-pair n g p q fits.0 fits.1 fits.2)
group-next n coins (controlled l k q) a fits group = group-applied n (looked_up a.records k) l q a.trace group
group-next n coins (collapse l q recorded inverted resets) a fits group =
    group-applied n (resets && outcome_at coins (single n q l) a.trace a.coin) (flip_of l) q (projected (single n q l) (outcome_at coins (single n q l) a.trace a.coin) ∷ a.trace)
    (group-measured n coins (single n q l) (length-one_letter n q l) a group)
group-next n coins (product factors inverted) a fits group = group-measured n coins (string_of n factors) (length-string_of n factors) a group
group-next n coins (detector ks) a fits group = group
group-next n coins (observable j ks) a fits group = group

-- bits

past-inverted : (i x o : Bool) → i ⊕ (x ⊕ o) ≡ x ⊕ (i ⊕ o)
past-inverted i x o = grind arith

-- there is a flip for each bit that a step gives

pub given-matches : (n : ℕ) (coins : ℕ → Bool) (pivots : RunPivots) (x : Step) (a : Point) (c : ℕ) (f : Frame)
    → Matches (given n coins x a) (flips_given n pivots x c f)
given-matches n coins pivots (one g q) a c f = record { records = refl; free = refl; outcomes = refl; detectors = refl; observables = refl }
given-matches n coins pivots (two g p q) a c f = record { records = refl; free = refl; outcomes = refl; detectors = refl; observables = refl }
given-matches n coins pivots (controlled l k q) a c f = record { records = refl; free = refl; outcomes = refl; detectors = refl; observables = refl }
given-matches n coins pivots (collapse l q recorded inverted resets) a c f =
    record { records = same-when recorded _ _; free = refl; outcomes = refl; detectors = refl; observables = refl }
given-matches n coins pivots (product factors inverted) a c f = record { records = refl; free = refl; outcomes = refl; detectors = refl; observables = refl }
given-matches n coins pivots (detector ks) a c f = record { records = refl; free = refl; outcomes = refl; detectors = refl; observables = refl }
given-matches n coins pivots (observable j ks) a c f = record { records = refl; free = refl; outcomes = refl; detectors = refl; observables = refl }

-- one step

module _ (n : ℕ) (coins : ℕ → Bool) (pivots : RunPivots) (f : Frame) (a b : Point) (by_frame : PointsDifferBy n f a b)
    (group : IsStabiliserGroup n (member a.trace)) where
  -- a measurement of a string
  module _ (m : Signed) (size : length m.letters ≡ n) (enough : IsEnough n (member a.trace) m f.letters (pivots.changes a.coin) (pivots.strings a.coin)) where
    outcome-given : outcome_at (coins_changed coins pivots.changes) m b.trace b.coin ≡ flips_outcome pivots a.coin m f.letters ⊕ outcome_at coins m a.trace a.coin
    outcome-given =
        ap (λ c. outcome_at (coins_changed coins pivots.changes) m b.trace c) by_frame.coin
        ∙ outcome-flipped n f.letters (member a.trace) (member b.trace) by_frame.group group m size (pivots.strings a.coin) (pivots.changes a.coin) enough (coins a.coin)

    random-given : is_random b.trace m ≡ is_random a.trace m
    random-given = conjugated-random n f.letters (member a.trace) (member b.trace) by_frame.group m size

    trace-measured : IsConjugated n (letters_measured pivots a.coin m f.letters)
        (member (projected m (outcome_at coins m a.trace a.coin) ∷ a.trace))
        (member (projected m (flips_outcome pivots a.coin m f.letters ⊕ outcome_at coins m a.trace a.coin) ∷ b.trace))
    trace-measured =
        measured-conjugated n f.letters (member a.trace) (member b.trace) by_frame.group group m size (pivots.strings a.coin) (pivots.changes a.coin) enough
        (outcome_at coins m a.trace a.coin)

    letters-size : length (letters_measured pivots a.coin m f.letters) ≡ n
    letters-size = length-measured n f.letters (member a.trace) (member b.trace) by_frame.group group m size by_frame.size (pivots.strings a.coin) (pivots.changes a.coin) enough

    -- and a letter that is applied if a reset has outcome 1
    trace-reset : (l : Letter) (q : ℕ) → q < n → (resets : Bool)
        → IsConjugated n (times_where (resets && flips_outcome pivots a.coin m f.letters) (single n q l).letters (letters_measured pivots a.coin m f.letters))
        (member (applied_where (resets && outcome_at coins m a.trace a.coin) l q (projected m (outcome_at coins m a.trace a.coin) ∷ a.trace)))
        (member (applied_where (resets && outcome_at (coins_changed coins pivots.changes) m b.trace b.coin) l q (projected m (outcome_at (coins_changed coins pivots.changes) m b.trace b.coin) ∷ b.trace)))
    trace-reset l q lt resets =
        subst (λ o. IsConjugated n (times_where (resets && flips_outcome pivots a.coin m f.letters) (single n q l).letters (letters_measured pivots a.coin m f.letters))
        (member (applied_where (resets && outcome_at coins m a.trace a.coin) l q (projected m (outcome_at coins m a.trace a.coin) ∷ a.trace)))
        (member (applied_where (resets && o) l q (projected m o ∷ b.trace))))
        (sym outcome-given)
        (subst (λ r. IsConjugated n (times_where (resets && flips_outcome pivots a.coin m f.letters) (single n q l).letters (letters_measured pivots a.coin m f.letters))
        (member (applied_where (resets && outcome_at coins m a.trace a.coin) l q (projected m (outcome_at coins m a.trace a.coin) ∷ a.trace)))
        (member (applied_where r l q (projected m (flips_outcome pivots a.coin m f.letters ⊕ outcome_at coins m a.trace a.coin) ∷ b.trace))))
        (sym (and-parity resets (flips_outcome pivots a.coin m f.letters) (outcome_at coins m a.trace a.coin)))
        (conjugated-where n l q lt (resets && outcome_at coins m a.trace a.coin) (resets && flips_outcome pivots a.coin m f.letters)
        (letters_measured pivots a.coin m f.letters) letters-size _ _ trace-measured))

  records-looked_up : (k : ℕ) → looked_up b.records k ≡ looked_up f.flips k ⊕ looked_up a.records k
  records-looked_up k = ap (λ r. looked_up r k) by_frame.records ∙ looked_up-flipped a.records f.flips by_frame.count k

  records-parity : (ks : List ℕ) → parity b.records ks ≡ parity f.flips ks ⊕ parity a.records ks
  records-parity ks = ap (λ r. parity r ks) by_frame.records ∙ parity-flipped a.records f.flips by_frame.count ks

  trace-by_frame : (x : Step) → StepFits n x → IsEnoughAt n pivots x f.letters a
      → IsConjugated n (letters_after n pivots x a.coin f) (member (trace_after n coins x a)) (member (trace_after n (coins_changed coins pivots.changes) x b))
  trace-by_frame (one g q) fits enough = conjugated-applied n g q f.letters by_frame.size (member a.trace) (member b.trace) by_frame.group
  trace-by_frame (two g p q) fits enough = conjugated-applied_pair n g p q fits f.letters by_frame.size (member a.trace) (member b.trace) by_frame.group
  trace-by_frame (controlled l k q) fits enough =
      subst (λ r. IsConjugated n (times_where (looked_up f.flips k) (single n q l).letters f.letters) (member (applied_where (looked_up a.records k) l q a.trace))
      (member (applied_where r l q b.trace)))
      (sym (records-looked_up k))
      (conjugated-where n l q fits (looked_up a.records k) (looked_up f.flips k) f.letters by_frame.size a.trace b.trace by_frame.group)
  trace-by_frame (collapse l q recorded inverted resets) fits enough = trace-reset (single n q l) (length-one_letter n q l) enough (flip_of l) q fits resets
  trace-by_frame (product factors inverted) fits enough =
      subst (λ o. IsConjugated n (letters_measured pivots a.coin (string_of n factors) f.letters)
      (member (projected (string_of n factors) (outcome_at coins (string_of n factors) a.trace a.coin) ∷ a.trace))
      (member (projected (string_of n factors) o ∷ b.trace)))
      (sym (outcome-given (string_of n factors) (length-string_of n factors) enough))
      (trace-measured (string_of n factors) (length-string_of n factors) enough)
  trace-by_frame (detector ks) fits enough = by_frame.group
  trace-by_frame (observable j ks) fits enough = by_frame.group

  letters-by_frame : (x : Step) → IsEnoughAt n pivots x f.letters a → length (letters_after n pivots x a.coin f) ≡ n
  letters-by_frame (one g q) enough = image-length g q (plus f.letters) ∙ by_frame.size
  letters-by_frame (two g p q) enough = pair-length g p q (plus f.letters) ∙ by_frame.size
  letters-by_frame (controlled l k q) enough = length-times n (looked_up f.flips k) (single n q l).letters f.letters (length-one_letter n q l) by_frame.size
  letters-by_frame (collapse l q recorded inverted resets) enough =
      length-times n _ (single n q (flip_of l)).letters _ (length-one_letter n q (flip_of l))
      (letters-size (single n q l) (length-one_letter n q l) enough)
  letters-by_frame (product factors inverted) enough = letters-size (string_of n factors) (length-string_of n factors) enough
  letters-by_frame (detector ks) enough = by_frame.size
  letters-by_frame (observable j ks) enough = by_frame.size

  pub given-by_frame : (x : Step) → IsEnoughAt n pivots x f.letters a → given n (coins_changed coins pivots.changes) x b ≡ flipped_output (given n coins x a) (flips_given n pivots x a.coin f)
  given-by_frame (one g q) enough = refl
  given-by_frame (two g p q) enough = refl
  given-by_frame (controlled l k q) enough = refl
  given-by_frame (collapse l q recorded inverted resets) enough = λ i. record nothing {
    records =
        (ap (λ o. when recorded (inverted ⊕ o)) (outcome-given (single n q l) (length-one_letter n q l) enough)
        ∙ ap (when recorded) (past-inverted inverted (flips_outcome pivots a.coin (single n q l) f.letters) (outcome_at coins (single n q l) a.trace a.coin))
        ∙ sym (flipped-when recorded (flips_outcome pivots a.coin (single n q l) f.letters) (inverted ⊕ outcome_at coins (single n q l) a.trace a.coin))) i;
    free = random-given (single n q l) (length-one_letter n q l) enough i ∷ [];
    outcomes = outcome-given (single n q l) (length-one_letter n q l) enough i ∷ [];
  }
  given-by_frame (product factors inverted) enough = λ i. record nothing {
    records =
        (ap (λ o. inverted ⊕ o) (outcome-given (string_of n factors) (length-string_of n factors) enough)
        ∙ past-inverted inverted (flips_outcome pivots a.coin (string_of n factors) f.letters) (outcome_at coins (string_of n factors) a.trace a.coin)) i ∷ [];
    free = random-given (string_of n factors) (length-string_of n factors) enough i ∷ [];
    outcomes = outcome-given (string_of n factors) (length-string_of n factors) enough i ∷ [];
  }
  given-by_frame (detector ks) enough = λ i. record nothing { detectors = records-parity ks i ∷ [] }
  given-by_frame (observable j ks) enough = λ i. record nothing { additions = record { observable = j; bit = records-parity ks i } ∷ [] }

  pub next-by_frame : (x : Step) → StepFits n x → IsEnoughAt n pivots x f.letters a
      → PointsDifferBy n (frame_after n pivots x a.coin f) (next_point n coins x a) (next_point n (coins_changed coins pivots.changes) x b)
  next-by_frame x fits enough = record {
    size = letters-by_frame x enough;
    group = trace-by_frame x fits enough;
    coin = ap (λ c. c + coins_of x) by_frame.coin;
    count =
        length-append f.flips (flips_given n pivots x a.coin f).records
        ∙ (λ i. by_frame.count i + (given-matches n coins pivots x a a.coin f).records i)
        ∙ sym (length-append a.records (given n coins x a).records);
    records =
        (λ i. by_frame.records i ++ (given-by_frame x enough i).records)
        ∙ sym (flipped-append a.records (given n coins x a).records f.flips (flips_given n pivots x a.coin f).records by_frame.count);
  }

pub step-by_frame : StepsKeepFrames
step-by_frame n coins pivots x f a b fits group enough by_frame =
    (given-by_frame n coins pivots f a b by_frame group x enough, next-by_frame n coins pivots f a b by_frame group x fits enough)

-- steps

pub outputs-matches : (n : ℕ) (coins : ℕ → Bool) (pivots : RunPivots) (xs : List Step) (a : Point) (c : ℕ) (f : Frame)
    → Matches (outputs n coins xs a) (flips_over n pivots xs c f)
outputs-matches n coins pivots [] a c f = record { records = refl; free = refl; outcomes = refl; detectors = refl; observables = refl }
outputs-matches n coins pivots (x ∷ xs) a c f =
    joined-matches (given n coins x a) (outputs n coins xs (next_point n coins x a)) (flips_given n pivots x c f)
    (flips_over n pivots xs (c + coins_of x) (frame_after n pivots x c f))
    (given-matches n coins pivots x a c f) (outputs-matches n coins pivots xs (next_point n coins x a) (c + coins_of x) (frame_after n pivots x c f))

pub over-by_frame : RunsKeepFrames
over-by_frame n coins pivots [] f a b fits group enough by_frame = (refl, by_frame)
over-by_frame n coins pivots (x ∷ xs) f a b fits group enough by_frame =
    let here : StepFits n x = All-head (StepFits n) x xs fits in
    let later = over-by_frame n coins pivots xs (frame_after n pivots x a.coin f) (next_point n coins x a) (next_point n (coins_changed coins pivots.changes) x b)
    (All-tail (StepFits n) x xs fits) (group-next n coins x a here group) enough.1
    (next-by_frame n coins pivots f a b by_frame group x here enough.0) in (
      (λ i. joined (given-by_frame n coins pivots f a b by_frame group x enough.0 i) (later.0 i))
          ∙ sym (flipped-joined (given n coins x a) (outputs n coins xs (next_point n coins x a)) (flips_given n pivots x a.coin f)
          (flips_over n pivots xs (a.coin + coins_of x) (frame_after n pivots x a.coin f)) (given-matches n coins pivots x a a.coin f)),
      later.1,
    )
