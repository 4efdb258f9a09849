-- The rest of a run: from a step on, before which it differs by a frame from another run that has the same steps there, what it gives, and
-- where it ends, if the frame was propagated over these steps.
use Rattle.stab_session.proofs.Names.{◌≡◌, ℕ, ◌+◌, ◌≤◌, refl, sym, ◌∙◌, ap, subst, Bool, ◌⊎◌, inl, inr, List, All, length, take, drop, take-append-drop, All-drop, TableauState, member, IsConjugated, Step, ones, Point, RunOutput, origin, point_after, outputs, all_coins_of, StepFits, AgreeAt, AgreeBack, with_coin, after-append, coins-are, same_coins, flips_over, PivotsState, AreTrue, pivot_at, LooksWithin, MayHaveCoin, PropagationState, frame_at, Checkpoint, IsCheckpoint, AreInOrder, IsRestFrame, PointsDifferBy, All-take, group-origin}
use Rattle.stab_session.proofs.EndingLemmas.{IsEnded, ending-flips, endings}
use Rattle.stab_session.proofs.RestFrameLemmas.{IsPropagatedOver, IsPropagatedAfter, advanced-there, advanced-differ, advanced-agree, advanced-end}

-- two runs have the same steps after step i of the one and step k of the other, before which they differ by a frame; it was propagated over these
-- steps, past checkpoints of the first run
pub record IsPropagatedRest (n : ℕ) (coins : ℕ → Bool) (xs ys back : List Step) (i k : ℕ) (strings : PivotsState) (free : List Bool) (base window : ℕ) (checkpoints : List Checkpoint)
    (conjugated : List TableauState) (old new : PropagationState) : Type 0 where
  pub old_after : drop i xs ≡ back
  pub new_after : drop k ys ≡ back
  pub old_within : i ≤ length xs
  pub new_within : k ≤ length ys
  pub fits : All (StepFits n) xs
  pub near : All (LooksWithin window) back
  pub by_frame : PointsDifferBy n (frame_at base old) (point_after n coins (take i xs) origin) (point_after n coins (take k ys) origin)
  pub coin : old.coin ≡ (point_after n coins (take i xs) origin).coin
  pub are_true : AreTrue n coins (pivot_at strings.strings free) back (point_after n coins (take i xs) origin)
  pub randomness : (outputs n coins back (point_after n coins (take i xs) origin)).free ≡ drop old.coin free
  pub are_checkpoints : All (IsCheckpoint n coins xs) checkpoints
  pub order : AreInOrder i (length xs) checkpoints
  pub advanced : IsRestFrame n strings.strings free window back i checkpoints conjugated old new

module _ {n : ℕ} {coins : ℕ → Bool} {xs ys back : List Step} {i k : ℕ} {strings : PivotsState} {free : List Bool} {base window : ℕ} {checkpoints : List Checkpoint}
    {conjugated : List TableauState} {old new : PropagationState} (r : IsPropagatedRest n coins xs ys back i k strings free base window checkpoints conjugated old new) where
  pub rest-over : IsPropagatedOver n coins (pivot_at strings.strings free) window back (point_after n coins (take i xs) origin) (point_after n coins (take k ys) origin) base old r.advanced.last r.advanced.steps
  rest-over = record {
    fits = subst (All (StepFits n)) r.old_after (All-drop (StepFits n) i xs r.fits);
    near = r.near;
    group = group-origin n coins (take i xs) (All-take (StepFits n) i xs r.fits);
    by_frame = r.by_frame;
    coin = sym r.coin;
    within = r.advanced.within;
    propagated = r.advanced.propagated;
    determined = r.advanced.enough coins (point_after n coins (take i xs) origin) base (sym r.coin) r.are_true r.randomness;
  }

  -- how it ended

  pub rest-ends : ((r.advanced.steps ≡ length back) × (length conjugated ≡ length checkpoints) × (new.letters ≡ r.advanced.last.letters))
      ⊎ IsEnded n window (point_after n coins (take r.advanced.steps back) (point_after n coins (take i xs) origin)) r.advanced.last new
  rest-ends =
      let there = advanced-there rest-over in
      endings n window back i r.advanced.steps checkpoints conjugated r.advanced.last new coins xs r.old_after r.fits r.are_checkpoints r.order there.size r.advanced.ends

  rest-flips : new.flips ≡ r.advanced.last.flips
  rest-flips = ending-flips n window back i r.advanced.steps checkpoints conjugated r.advanced.last new r.advanced.ends

  pub rest-after : IsPropagatedAfter n coins (pivot_at strings.strings free) window back (point_after n coins (take i xs) origin) (point_after n coins (take k ys) origin) base old r.advanced.last new r.advanced.steps
  rest-after = record {
    advanced = rest-over;
    flips = rest-flips;
    ends =
        elim rest-ends [
          | inl all ↦ inl (all.0, all.2)
          | inr ended ↦ inr ended
        ];
  }

  old_end : point_after n coins xs origin ≡ point_after n coins back (point_after n coins (take i xs) origin)
  old_end =
      ap (λ zs. point_after n coins zs origin) (sym (take-append-drop i xs))
      ∙ after-append n coins (take i xs) (drop i xs) origin
      ∙ ap (λ zs. point_after n coins zs (point_after n coins (take i xs) origin)) r.old_after

  new_end : point_after n coins ys origin ≡ point_after n coins back (point_after n coins (take k ys) origin)
  new_end =
      ap (λ zs. point_after n coins zs origin) (sym (take-append-drop k ys))
      ∙ after-append n coins (take k ys) (drop k ys) origin
      ∙ ap (λ zs. point_after n coins zs (point_after n coins (take k ys) origin)) r.new_after

  -- after the last step
  pub rest-group : IsConjugated n new.letters (member (point_after n coins xs origin).trace) (member (point_after n coins ys origin).trace)
  rest-group =
      subst (λ (p : Point). IsConjugated n new.letters (member p.trace) (member (point_after n coins ys origin).trace)) (sym old_end)
      (subst (λ (p : Point). IsConjugated n new.letters (member (point_after n coins back (point_after n coins (take i xs) origin)).trace) (member p.trace)) (sym new_end) (advanced-end rest-after))

  -- what it flips on the way
  abbrev pub later : RunOutput
  later = flips_over n (same_coins (pivot_at strings.strings free)) (take r.advanced.steps back) (point_after n coins (take i xs) origin).coin (frame_at base old)

  -- if it ended, the runs agree from there on as far back as the steps look

  pub rest-agree : IsEnded n window (point_after n coins (take r.advanced.steps back) (point_after n coins (take i xs) origin)) r.advanced.last new → (m : ℕ) → r.advanced.steps ≤ m
      → AgreeBack n window (with_coin (point_after n coins (take m back) (point_after n coins (take k ys) origin)).coin (point_after n coins (take m back) (point_after n coins (take i xs) origin)))
      (point_after n coins (take m back) (point_after n coins (take k ys) origin))
  rest-agree ended m le =
      let on = advanced-agree rest-after ended m le in
      record { group = on.group; coin = refl; records = on.records }

  pub rest-may : (m : ℕ) → MayHaveCoin n coins (drop m back) (point_after n coins (take m back) (point_after n coins (take i xs) origin))
      (point_after n coins (take m back) (point_after n coins (take k ys) origin)).coin
  rest-may m =
      inl (coins-are n coins (take m back) (point_after n coins (take i xs) origin)
      ∙ ap (λ c. c + all_coins_of (take m back)) (sym r.by_frame.coin)
      ∙ sym (coins-are n coins (take m back) (point_after n coins (take k ys) origin)))

  -- if it flips a record in all, the runs agree nowhere on its way

  pub rest-differ : (m : ℕ) → m ≤ r.advanced.steps → 1 ≤ ones new.flips.records
      → AgreeAt n (point_after n coins (take m back) (point_after n coins (take i xs) origin)) (point_after n coins (take m back) (point_after n coins (take k ys) origin)) → ⊥
  rest-differ m le some agree =
      advanced-differ rest-over m le (subst (λ (o : RunOutput). 1 ≤ ones o.records) rest-flips some) agree
