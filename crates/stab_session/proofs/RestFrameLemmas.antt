-- Frames over the rest: what is so at each point after, if a frame was propagated over all steps, or some of them and then ended.
use Rattle.stab_session.proofs.Names.{◌≡◌, ℕ, ◌+◌, ◌-◌, ◌≤◌, sym, ◌∙◌, ap, subst, Bool, false, ◌⊎◌, inl, inr, List, ◌++◌, All, Option, length, take, drop, replicate, arith, cases_lt, take_all, take-take, replicate-append-replicate, All-take, All-drop, take-add, Letter, ◌⊕◌, member, IsStabiliserGroup, IsConjugated, Step, looked_up, ones, Point, RunOutput, joined, point_after, outputs, all_coins_of, StepFits, lengths_of, AgreeAt, AgreeBack, same-future, same-future-back, after-append, outputs-append, flipped_output, Frame, PointsDifferBy, frame_over, flips_over, LooksWithin, same_coins, AreEnough, PropagationState, frame_at, PropagatesOver, looked_up-flipped, enough-before, over-by_frame, outputs-matches, conjugated-blank, same-lengths}
use Rattle.stab_recording.proofs.FlippedLemmas.{flips-random}
use Rattle.stab_recording.proofs.RecordedReplayLemmas.{near-enough}
use Rattle.stab_session.proofs.EndingLemmas.{IsEnded}
use Rattle.stab_session.proofs.FlippedReplayLemmas.{flipped-front, flips-differ}

-- points that agree this far back agree less far back
nearer : (n m k : ℕ) (a b : Point) → k ≤ m → AgreeBack n m a b → AgreeBack n k a b
nearer n m k a b le agree = record { group = agree.group; coin = agree.coin; records = λ j near. agree.records j (omega (arith, le, near)) }

-- points of a run further on
further : (n : ℕ) (coins : ℕ → Bool) (back : List Step) (i m : ℕ) → i ≤ m → (c : Point)
    → point_after n coins (take m back) c ≡ point_after n coins (take (m - i) (drop i back)) (point_after n coins (take i back) c)
further n coins back i m le c =
    ap (λ k. point_after n coins (take k back) c) {x = m} (omega (arith, le))
    ∙ ap (λ zs. point_after n coins zs c) (take-add i (m - i) back)
    ∙ after-append n coins (take i back) (take (m - i) (drop i back)) c

-- and what it gives up to there
given-further : (n : ℕ) (coins : ℕ → Bool) (back : List Step) (i m : ℕ) → i ≤ m → (c : Point)
    → outputs n coins (take m back) c ≡ joined (outputs n coins (take i back) c) (outputs n coins (take (m - i) (drop i back)) (point_after n coins (take i back) c))
given-further n coins back i m le c =
    ap (λ k. outputs n coins (take k back) c) {x = m} (omega (arith, le))
    ∙ ap (λ zs. outputs n coins zs c) (take-add i (m - i) back)
    ∙ outputs-append n coins (take i back) (take (m - i) (drop i back)) c

-- if two runs agree, they agree further on
pub agree-further : (n : ℕ) (coins : ℕ → Bool) (back : List Step) (a b : Point) (i m : ℕ) → i ≤ m
    → AgreeAt n (point_after n coins (take i back) a) (point_after n coins (take i back) b)
    → AgreeAt n (point_after n coins (take m back) a) (point_after n coins (take m back) b)
agree-further n coins back a b i m le agree =
    subst (λ p. AgreeAt n p (point_after n coins (take m back) b)) (sym (further n coins back i m le a))
    (subst (AgreeAt n (point_after n coins (take (m - i) (drop i back)) (point_after n coins (take i back) a))) (sym (further n coins back i m le b))
    (same-future n coins (take (m - i) (drop i back)) (point_after n coins (take i back) a) (point_after n coins (take i back) b) agree).1)

-- a run after a point differs from another by a frame, which passed this many of the steps that both have there
pub record IsPropagatedOver (n : ℕ) (coins : ℕ → Bool) (strings : ℕ → Option (List Letter)) (window : ℕ) (back : List Step) (a b : Point) (base : ℕ) (old last : PropagationState) (steps : ℕ) : Type 0 where
  pub fits : All (StepFits n) back
  pub near : All (LooksWithin window) back
  pub group : IsStabiliserGroup n (member a.trace)
  pub by_frame : PointsDifferBy n (frame_at base old) a b
  pub coin : a.coin ≡ old.coin
  pub within : steps ≤ length back
  pub propagated : PropagatesOver n strings (take steps back) old last
  pub determined : AreEnough n coins (same_coins strings) (take steps back) (frame_at base old) a

module _ {n : ℕ} {coins : ℕ → Bool} {strings : ℕ → Option (List Letter)} {window : ℕ} {back : List Step} {a b : Point} {base : ℕ} {old last : PropagationState} {steps : ℕ}
    (o : IsPropagatedOver n coins strings window back a b base old last steps) where
  -- after these steps
  pub on-way : (m : ℕ) → m ≤ steps
      → (outputs n coins (take m back) b ≡ flipped_output (outputs n coins (take m back) a) (flips_over n (same_coins strings) (take m back) a.coin (frame_at base old)))
      × PointsDifferBy n (frame_over n (same_coins strings) (take m back) a.coin (frame_at base old)) (point_after n coins (take m back) a) (point_after n coins (take m back) b)
  on-way m le =
      over-by_frame n coins (same_coins strings) (take m back) (frame_at base old) a b (All-take (StepFits n) m back o.fits) o.group
      (subst (λ zs. AreEnough n coins (same_coins strings) zs (frame_at base old) a) (take-take m steps back le)
      (enough-before n coins (same_coins strings) m (take steps back) (frame_at base old) a o.determined)) o.by_frame

  -- if a propagation over them says by which letters
  pub advanced-on-way : (m : ℕ) (v : PropagationState) → m ≤ steps → PropagatesOver n strings (take m back) old v
      → IsConjugated n v.letters (member (point_after n coins (take m back) a).trace) (member (point_after n coins (take m back) b).trace)
  advanced-on-way m v le propagation =
      subst (λ g. IsConjugated n g (member (point_after n coins (take m back) a).trace) (member (point_after n coins (take m back) b).trace)) letters (on-way m le).1.group
    where
      letters : (frame_over n (same_coins strings) (take m back) a.coin (frame_at base old)).letters ≡ v.letters
      letters = (λ i. (frame_over n (same_coins strings) (take m back) (o.coin i) (frame_at base old)).letters) ∙ ap (λ (f : Frame). f.letters) (sym (propagation.frame base))

  -- where the propagation ends
  pub advanced-there : PointsDifferBy n (frame_at base last) (point_after n coins (take steps back) a) (point_after n coins (take steps back) b)
  advanced-there =
      subst (λ f. PointsDifferBy n f (point_after n coins (take steps back) a) (point_after n coins (take steps back) b))
      ((λ i. frame_over n (same_coins strings) (take steps back) (o.coin i) (frame_at base old)) ∙ sym (o.propagated.frame base)) (on-way steps (omega arith)).1

  -- what it flipped from where it was propagated
  pub flips-are : joined old.flips (flips_over n (same_coins strings) (take steps back) a.coin (frame_at base old)) ≡ last.flips
  flips-are =
      (λ i. joined old.flips (flips_over n (same_coins strings) (take steps back) (o.coin i) (frame_at base old)))
      ∙ sym (o.propagated.flips base)

  -- if it flips a record in all, the runs agree nowhere on its way
  pub advanced-differ : (m : ℕ) → m ≤ steps → 1 ≤ ones last.flips.records → AgreeAt n (point_after n coins (take m back) a) (point_after n coins (take m back) b) → ⊥
  advanced-differ m le some agree =
      flips-differ n base last (point_after n coins (take steps back) a) (point_after n coins (take steps back) b) advanced-there some
      (agree-further n coins back a b m steps le agree).records

-- and it passed all of them, or ended there
pub record IsPropagatedAfter (n : ℕ) (coins : ℕ → Bool) (strings : ℕ → Option (List Letter)) (window : ℕ) (back : List Step) (a b : Point) (base : ℕ) (old last new : PropagationState) (steps : ℕ) : Type 0 where
  pub advanced : IsPropagatedOver n coins strings window back a b base old last steps
  pub flips : new.flips ≡ last.flips
  pub ends : ((steps ≡ length back) × (new.letters ≡ last.letters)) ⊎ IsEnded n window (point_after n coins (take steps back) a) last new

module _ {n : ℕ} {coins : ℕ → Bool} {strings : ℕ → Option (List Letter)} {window : ℕ} {back : List Step} {a b : Point} {base : ℕ} {old last new : PropagationState} {steps : ℕ}
    (h : IsPropagatedAfter n coins strings window back a b base old last new steps) where
  -- if it ended, they agree from there on as far back as the steps look

  module _ (ended : IsEnded n window (point_after n coins (take steps back) a) last new) where
    quiet : AgreeBack n window (point_after n coins (take steps back) a) (point_after n coins (take steps back) b)
    quiet =
        let there = advanced-there h.advanced in
        record {
          group = λ p size. ended.quiet p size ∙ sym (there.group p size);
          coin = sym there.coin;
          records = λ k le.
              sym (ap (λ r. looked_up r k) there.records
              ∙ looked_up-flipped (point_after n coins (take steps back) a).records (frame_at base last).flips there.count k
              ∙ ap (λ c. c ⊕ looked_up (point_after n coins (take steps back) a).records k)
              (ap (λ (q : RunOutput). looked_up (replicate base false ++ q.records) k) (sym h.flips) ∙ (ended.blank base).flips k le));
        }

    rest : (m : ℕ) → (outputs n coins (take m (drop steps back)) (point_after n coins (take steps back) a) ≡ outputs n coins (take m (drop steps back)) (point_after n coins (take steps back) b))
        × AgreeBack n window (point_after n coins (take m (drop steps back)) (point_after n coins (take steps back) a))
        (point_after n coins (take m (drop steps back)) (point_after n coins (take steps back) b))
    rest m =
        let both = same-future-back n coins window (take m (drop steps back)) (point_after n coins (take steps back) a) (point_after n coins (take steps back) b)
        (near-enough window window (take m (drop steps back)) (omega arith)
        (All-take (LooksWithin window) m (drop steps back) (All-drop (LooksWithin window) steps back h.advanced.near))) quiet in
        (both.0, nearer n _ window _ _ (omega arith) both.1)

    pub advanced-agree : (m : ℕ) → steps ≤ m → AgreeBack n window (point_after n coins (take m back) a) (point_after n coins (take m back) b)
    advanced-agree m le =
        subst (λ p. AgreeBack n window p (point_after n coins (take m back) b)) (sym (further n coins back steps m le a))
        (subst (AgreeBack n window (point_after n coins (take (m - steps) (drop steps back)) (point_after n coins (take steps back) a))) (sym (further n coins back steps m le b))
        (rest (m - steps)).1)

    given-ended : (m : ℕ) → steps ≤ m
        → outputs n coins (take m back) b ≡ flipped_output (outputs n coins (take m back) a) (flips_over n (same_coins strings) (take steps back) a.coin (frame_at base old))
    given-ended m le =
        given-further n coins back steps m le b
        ∙ (λ i. joined ((on-way h.advanced steps (omega arith)).0 i) (sym (rest (m - steps)).0 i))
        ∙ sym (flipped-front (outputs n coins (take steps back) a) (outputs n coins (take (m - steps) (drop steps back)) (point_after n coins (take steps back) a))
        (flips_over n (same_coins strings) (take steps back) a.coin (frame_at base old))
        (outputs-matches n coins (same_coins strings) (take steps back) a a.coin (frame_at base old)))
        ∙ ap (λ q. flipped_output q (flips_over n (same_coins strings) (take steps back) a.coin (frame_at base old))) (sym (given-further n coins back steps m le a))

  -- from where its propagation ended on, it differs by its last letters, and by what it flipped

  all-steps : (m : ℕ) → steps ≡ length back → steps ≤ m → take steps back ≡ take m back
  all-steps m all le = take_all steps back (omega (arith, all)) ∙ sym (take_all m back (omega (arith, all, le)))

  pub advanced-further : (m : ℕ) → steps ≤ m
      → IsConjugated n new.letters (member (point_after n coins (take m back) a).trace) (member (point_after n coins (take m back) b).trace)
  advanced-further m le =
      elim h.ends [
        | inl all ↦
            subst (λ g. IsConjugated n g (member (point_after n coins (take m back) a).trace) (member (point_after n coins (take m back) b).trace)) (sym all.1)
            (subst (λ zs. IsConjugated n last.letters (member (point_after n coins zs a).trace) (member (point_after n coins zs b).trace)) (all-steps m all.0 le) (advanced-there h.advanced).group)
        | inr ended ↦
            subst (λ g. IsConjugated n g (member (point_after n coins (take m back) a).trace) (member (point_after n coins (take m back) b).trace)) (sym (ended.blank 0).letters)
            (λ p size. sym ((advanced-agree ended m le).group p size) ∙ conjugated-blank n (member (point_after n coins (take m back) a).trace) p size)
      ]

  given-beyond : (m : ℕ) → steps ≤ m
      → outputs n coins (take m back) b ≡ flipped_output (outputs n coins (take m back) a) (flips_over n (same_coins strings) (take steps back) a.coin (frame_at base old))
  given-beyond m le =
      elim h.ends [
        | inl all ↦
            subst (λ zs. outputs n coins zs b ≡ flipped_output (outputs n coins zs a) (flips_over n (same_coins strings) (take steps back) a.coin (frame_at base old)))
            (all-steps m all.0 le) (on-way h.advanced steps (omega arith)).0
        | inr ended ↦ given-ended ended m le
      ]

  -- some steps later, wherever that is

  pub advanced-lengths : (m : ℕ) → lengths_of (outputs n coins (take m back) b) ≡ lengths_of (outputs n coins (take m back) a)
  advanced-lengths m =
      elim (cases_lt steps m) [
        | inl lt ↦ flips_by (flips_over n (same_coins strings) (take steps back) a.coin (frame_at base old)) (given-beyond m (omega arith))
        | inr le ↦ flips_by (flips_over n (same_coins strings) (take m back) a.coin (frame_at base old)) (on-way h.advanced m le).0
      ]
    where
      flips_by : (flips : RunOutput) → outputs n coins (take m back) b ≡ flipped_output (outputs n coins (take m back) a) flips
          → lengths_of (outputs n coins (take m back) b) ≡ lengths_of (outputs n coins (take m back) a)
      flips_by flips is = ap lengths_of is ∙ same-lengths (outputs n coins (take m back) a) flips

  -- after the last step

  whole : take (length back) back ≡ back
  whole = take_all (length back) back (omega arith)

  pub advanced-end : IsConjugated n new.letters (member (point_after n coins back a).trace) (member (point_after n coins back b).trace)
  advanced-end =
      subst (λ zs. IsConjugated n new.letters (member (point_after n coins zs a).trace) (member (point_after n coins zs b).trace)) whole
      (advanced-further (length back) h.advanced.within)

  pub advanced-given : outputs n coins back b ≡ flipped_output (outputs n coins back a) (flips_over n (same_coins strings) (take steps back) a.coin (frame_at base old))
  advanced-given =
      subst (λ zs. outputs n coins zs b ≡ flipped_output (outputs n coins zs a) (flips_over n (same_coins strings) (take steps back) a.coin (frame_at base old))) whole
      (given-beyond (length back) h.advanced.within)

  pub advanced-flips : joined old.flips (flips_over n (same_coins strings) (take steps back) a.coin (frame_at base old)) ≡ new.flips
  advanced-flips = flips-are h.advanced ∙ sym h.flips

  -- no flag is flipped, if none was before
  pub advanced-unflagged : (flagged : ℕ) → old.flips.free ≡ replicate flagged false → new.flips.free ≡ replicate (flagged + all_coins_of (take steps back)) false
  advanced-unflagged flagged none =
      sym (ap (λ (q : RunOutput). q.free) advanced-flips)
      ∙ (λ i. none i ++ flips-random n (same_coins strings) (take steps back) a.coin (frame_at base old) i)
      ∙ replicate-append-replicate flagged (all_coins_of (take steps back)) false
