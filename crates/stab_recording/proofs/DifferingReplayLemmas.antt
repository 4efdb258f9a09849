-- Replays that differ: if a replay's next coin has another number than the old run's, or its records are others, the two agree at no later
-- old checkpoint.
use Rattle.stab_recording.proofs.Names.{◌≡◌, ◌≢◌, ℕ, suc, zero, ◌+◌, ◌-◌, ◌<◌, ◌≤◌, refl, sym, ◌∙◌, ap, subst, Bool, ◌⊎◌, inl, inr, List, [], ◌∷◌, ◌++◌, Option, Some, None, length, take, drop, slice_get, arith, IfSome, cases_lt, length-append, length-drop, drop-drop, take_at, Step, Lengths, Checkpoint, IsCheckpoint, Point, RunOutput, origin, point_after, outputs, all_coins_of, randomness-is-coins, records-are-records, records-gathered, records-made, coins-are, Plan, Replay, IsAtStep, Ascending, Misses, IsOnWay, step_among_new, IsOldRun, IsBeside, HasOtherCoins}
use Rattle.std.specs.Prelude.{IsSomeAnd}
use Rattle.stab_recording.proofs.CursorPositionLemmas.{at-number}
use Rattle.stab_recording.proofs.PointLemmas.{old_later, new_later}
use Rattle.stab_recording.proofs.RunCheckpointLemmas.{records-at}

-- steps after those that differ
steps-following : (xs ys : List Step) (old_end new_end : ℕ) → drop old_end xs ≡ drop new_end ys → (first : ℕ) → old_end ≤ first → drop first xs ≡ drop (new_end + (first - old_end)) ys
steps-following xs ys old_end new_end same first le =
    ap (λ k. drop k xs) (omega (arith, le))
    ∙ sym (drop-drop (first - old_end) old_end xs)
    ∙ ap (drop (first - old_end)) same
    ∙ drop-drop (first - old_end) new_end ys

-- the number of the next coin at a checkpoint
checkpoint-coin : (n : ℕ) (coins : ℕ → Bool) (xs : List Step) (c : Checkpoint) → IsCheckpoint n coins xs c → c.lengths.free ≡ (point_after n coins (take c.step xs) origin).coin
checkpoint-coin n coins xs c is = ap (λ (l : Lengths). l.free) is.lengths ∙ randomness-is-coins n coins (take c.step xs)

-- lists whose ends are as long have the same fronts
same-fronts : (a b x y : List Bool) → a ++ x ≡ b ++ y → length x ≡ length y → a ≡ b
same-fronts a b x y same ends =
    let size : length b ≡ length a = omega (arith, ap length same, length-append a x, length-append b y, ends) in
    sym (take_at a x (length a) refl) ∙ ap (take (length a)) same ∙ take_at b y (length a) size

-- some steps later it is greater by as much in both runs, whose steps are the same there

more-coins : (n : ℕ) (coins : ℕ → Bool) (xs : List Step) (a b : Point) → a ≡ point_after n coins xs b → a.coin ≡ b.coin + all_coins_of xs
more-coins n coins xs a b same = ap (λ (q : Point). q.coin) same ∙ coins-are n coins xs b

module _ (n : ℕ) (coins : ℕ → Bool) (p : Plan) (ys : List Step) (checkpoints : List Checkpoint) (o : RunOutput) (old : IsOldRun n coins p ys checkpoints o)
    (few : length ys ≤ 1048576) (b c : Checkpoint) (from : IsCheckpoint n coins old.steps b) (to : IsCheckpoint n coins old.steps c) (following : p.old_end ≤ b.step)
    (order : b.step ≤ c.step) (r : Replay) (at : IsAtStep n coins ys r) (position : step_among_new p b ≡ r.step) where
  -- where the replay is, and where it comes to the later checkpoint
  here : p.new_end + (b.step - p.old_end) ≡ r.step
  here =
      let within = at.within in
      omega (arith, position, within, few)

  there : step_among_new p c ≡ r.step + (c.step - b.step)
  there =
      let end = old.new_within in
      let old_end = old.old_within in
      let within = to.within in
      omega (arith, here, few, end, old_end, within, following, order, length-drop p.old_end old.steps, length-drop p.new_end ys, ap length old.following)

  same-steps : drop b.step old.steps ≡ drop r.step ys
  same-steps = steps-following old.steps ys p.old_end p.new_end old.following b.step following ∙ ap (λ k. drop k ys) here

  old-coin : c.lengths.free ≡ b.lengths.free + all_coins_of (take (c.step - b.step) (drop b.step old.steps))
  old-coin =
      checkpoint-coin n coins old.steps c to
      ∙ ap (λ k. (point_after n coins (take k old.steps) origin).coin) (omega (arith, order))
      ∙ more-coins n coins (take (c.step - b.step) (drop b.step old.steps)) _ (point_after n coins (take b.step old.steps) origin)
      (old_later n coins old.steps ys b.step r.step same-steps (c.step - b.step))
      ∙ ap (λ k. k + all_coins_of (take (c.step - b.step) (drop b.step old.steps))) (sym (checkpoint-coin n coins old.steps b from))

  new-coin : (point_after n coins (take (step_among_new p c) ys) origin).coin ≡ length r.outputs.free.items + all_coins_of (take (c.step - b.step) (drop b.step old.steps))
  new-coin =
      ap (λ k. (point_after n coins (take k ys) origin).coin) there
      ∙ more-coins n coins (take (c.step - b.step) (drop b.step old.steps)) _ (point_after n coins (take r.step ys) origin)
      (new_later n coins old.steps ys b.step r.step same-steps (c.step - b.step))
      ∙ ap (λ k. k + all_coins_of (take (c.step - b.step) (drop b.step old.steps)))
      (sym (ap (λ (x : RunOutput). length x.free) at.run.output ∙ randomness-is-coins n coins (take r.step ys)))

  misses-moved : b.lengths.free ≢ length r.outputs.free.items → (records : List Bool) → Misses n coins p ys records c
  misses-moved distinct records xs is preserved agree =
      distinct (omega (arith, old-coin, new-coin, checkpoint-coin n coins xs c is, agree.coin))

  -- what both make from the one position to the other
  abbrev between-them : List Step
  between-them = take (c.step - b.step) (drop b.step old.steps)

  abbrev old-point : Point
  old-point = point_after n coins (take b.step old.steps) origin

  abbrev new-point : Point
  new-point = point_after n coins (take r.step ys) origin

  old-there : take c.lengths.records o.records ≡ old-point.records ++ (outputs n coins between-them old-point).records
  old-there =
      records-at n coins old.steps o c to old.output
      ∙ ap (λ k. (point_after n coins (take k old.steps) origin).records) (omega (arith, order))
      ∙ ap (λ (q : Point). q.records) (old_later n coins old.steps ys b.step r.step same-steps (c.step - b.step))
      ∙ records-gathered n coins between-them old-point

  new-there : (point_after n coins (take (step_among_new p c) ys) origin).records ≡ new-point.records ++ (outputs n coins between-them new-point).records
  new-there =
      ap (λ k. (point_after n coins (take k ys) origin).records) there
      ∙ ap (λ (q : Point). q.records) (new_later n coins old.steps ys b.step r.step same-steps (c.step - b.step))
      ∙ records-gathered n coins between-them new-point

  misses-others : take b.lengths.records o.records ≢ r.outputs.records.items → Misses n coins p ys o.records c
  misses-others distinct xs is preserved agree =
      distinct
      (records-at n coins old.steps o b from old.output
      ∙ same-fronts old-point.records new-point.records (outputs n coins between-them old-point).records (outputs n coins between-them new-point).records
      (sym old-there ∙ preserved ∙ records-are-records n coins (take c.step xs) ∙ agree.records ∙ new-there)
      (records-made n coins between-them old-point ∙ sym (records-made n coins between-them new-point))
      ∙ sym (ap (λ (x : RunOutput). x.records) at.run.output ∙ records-are-records n coins (take r.step ys)))

  pub misses-later : (b.lengths.free ≢ length r.outputs.free.items) ⊎ (take b.lengths.records o.records ≢ r.outputs.records.items) → Misses n coins p ys o.records c
  misses-later (inl distinct) = misses-moved distinct o.records
  misses-later (inr distinct) = misses-others distinct

-- checkpoints after the next one are no earlier
pub ascending-from : (p : Plan) (step next later : ℕ) (cs : List Checkpoint) → Ascending p step (drop next cs) → next ≤ later → Ascending p step (drop later cs)
ascending-from p step zero zero cs h le = h
ascending-from p step zero (suc later) [] h le = h
ascending-from p step zero (suc later) (c ∷ cs) h le = ascending-from p step zero later cs (ascending-less p step (step_among_new p c) cs h.0 h.1) (omega arith)
  where
    ascending-less : (p : Plan) (step more : ℕ) (cs : List Checkpoint) → step ≤ more → Ascending p more cs → Ascending p step cs
    ascending-less p step more [] le h = omega (arith, le, h)
    ascending-less p step more (c ∷ cs) le h = let first = h.0 in (omega (arith, le, first), h.1)
ascending-from p step (suc next) zero cs h le = absurd (omega (arith, le))
ascending-from p step (suc next) (suc later) [] h le = h
ascending-from p step (suc next) (suc later) (c ∷ cs) h le = ascending-from p step next later cs h (omega (arith, le))

-- a replay on its way may pass checkpoints that it misses
pub way-past : (n : ℕ) (coins : ℕ → Bool) (begin : ℕ) (p : Plan) (ys : List Step) (checkpoints : List Checkpoint) (old : List Bool) (next later : ℕ) (r : Replay)
    → IsOnWay n coins begin p ys checkpoints old next r → next ≤ later → later ≤ length checkpoints
    → ((number : ℕ) → next ≤ number → number < later → IfSome (slice_get checkpoints number) (Misses n coins p ys old)) → IsOnWay n coins begin p ys checkpoints old later r
way-past n coins begin p ys checkpoints old next later r way le within missed =
    let stop = way.stop in
    record {
      stop = record {
        replay = stop.replay;
        counted = stop.counted;
        order = let first = stop.order in omega (arith, first, le);
        within = within;
        ascending = ascending-from p r.step next later checkpoints stop.ascending le;
        missed = λ number from before.
            elim (cases_lt number next) [
              | inl lt ↦ stop.missed number from lt
              | inr ge ↦ missed number ge before
            ];
      };
      last = way.last;
    }

-- if it is at the step of an old checkpoint and differs from it, later old checkpoints of the list are missed
pub all-missed : (n : ℕ) (coins : ℕ → Bool) (p : Plan) (ys : List Step) (checkpoints : List Checkpoint) (o : RunOutput) (r : Replay) → IsBeside n coins p ys checkpoints o r
    → length ys ≤ 1048576 → (last : ℕ) (b : Checkpoint) → slice_get checkpoints last ≡ Some b → IsSomeAnd (slice_get checkpoints last) (HasOtherCoins p r o) → (number : ℕ)
    → IfSome (slice_get checkpoints number) (λ c. b.step ≤ c.step) → IfSome (slice_get checkpoints number) (Misses n coins p ys o.records)
all-missed n coins p ys checkpoints o r beside few last b from distinct number following =
    later (slice_get checkpoints number) refl following
  where
    held : HasOtherCoins p r o b
    held = subst (λ m. IsSomeAnd m (HasOtherCoins p r o)) from distinct

    later : (found : Option Checkpoint) → slice_get checkpoints number ≡ found → IfSome found (λ c. b.step ≤ c.step) → IfSome found (Misses n coins p ys o.records)
    later None to following = tt
    later (Some c) to following =
        misses-later n coins p ys checkpoints o beside.old few b c (at-number (IsCheckpoint n coins beside.old.steps) checkpoints last b from beside.old.are_checkpoints)
        (at-number (IsCheckpoint n coins beside.old.steps) checkpoints number c to beside.old.are_checkpoints) held.following following r beside.at_step held.position held.differs
