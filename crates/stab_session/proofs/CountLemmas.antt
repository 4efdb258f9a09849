-- Counts: how many steps a replay of an edited circuit carries out, from where it begins to where it ends.
use Rattle.stab_session.proofs.Names.{◌≡◌, ℕ, zero, suc, ◌+◌, ◌-◌, ◌*◌, ◌^◌, ◌<◌, ◌≤◌, max, false, refl, sym, ◌∙◌, ap, subst, Bool, ◌⊎◌, inl, inr, List, [], ◌∷◌, length, take, drop, All, Option, Some, None, arith, IfSome, MatchOption, if◌then◌else◌, cases_lt, leb_tells, drop-drop, take-append-drop, All-head, All-tail, All-drop, All-weaker, slice_get-map, Step, looks_too_far, MayHaveCoin, LooksWithin, Checkpoint, Replay, Plan, Recording, Span, RunOutput, origin, point_after, outputs, all_coins_of, AgreeAt, last_until, MayBeMet, EndsAt, NoneBefore, IsCounted, program_state, output_of, AgreeBack, with_coin, last_of, IsRunFromStart, IsCheckpoint, checkpoint_steps, moved, IsRecording, IsSpan, AgreeAfterSpan, AgreeBackAfterSpan, MeetsAt, Misses, EndsSoon, step_among_new, conjugated_end, slice_get_within, front-output, coins-append}
use Rattle.std.specs.Prelude.{IsSomeAnd, option_map, slice_get}
use Rattle.stab_recording.proofs.RecordedReplayLemmas.{near-enough}
use Rattle.stab_recording.proofs.PointLemmas.{meets-agree, agree-later}
use Rattle.stab_session.proofs.SpacingLemmas.{IsBefore, IsNearCheckpoint, near-checkpoint, following-near, all-following, moved-within}
use Rattle.stab_session.proofs.FollowLemmas.{at-get, some-at, if-some, from-drop, same-rest, all-next, front-spaced}

pub match-weaker : {X : Type 0} (A B : Type 0) (P Q : X → Type 0) (o : Option X) → (A → B) → ((x : X) → P x → Q x) → MatchOption o A P → MatchOption o B Q
match-weaker A B P Q None f g h = f h
match-weaker A B P Q (Some x) f g h = g x h

-- the last of the steps up to a step is that of the checkpoints at or before it
last-is : (p m a : ℕ) (cs : List Checkpoint) → m ≤ length cs → All (λ c. c.step < p + 1) (take m cs) → IfSome (slice_get cs m) (λ c. p + 1 ≤ c.step)
    → last_until p a (checkpoint_steps cs) ≡ last_of a (checkpoint_steps (take m cs))
last-is p zero a [] within front following = refl
last-is p zero a (c ∷ cs) within front following =
    elim (leb_tells c.step p) [
      | inl t ↦ let le = t.1 in absurd (omega (arith, following, le))
      | inr t ↦ ap (λ v. if v then last_until p c.step (checkpoint_steps cs) else a) t.0
    ]
last-is p (suc m) a [] within front following = absurd (omega arith)
last-is p (suc m) a (c ∷ cs) within front following =
    elim (leb_tells c.step p) [
      | inl t ↦
          ap (λ v. if v then last_until p c.step (checkpoint_steps cs) else a) t.0
          ∙ last-is p m c.step cs (omega arith) (All-tail (λ c. c.step < p + 1) c (take m cs) front) following
      | inr t ↦ let lt = t.1 in let here = All-head (λ c. c.step < p + 1) c (take m cs) front in absurd (omega (arith, lt, here))
    ]

-- checkpoints and their steps

in-front : {X : Type 0} (P : X → Type 0) (m k : ℕ) (xs : List X) (x : X) → All P (take m xs) → slice_get xs k ≡ Some x → k < m → P x
in-front P zero k xs x all is lt = absurd (omega arith)
in-front P (suc m) k [] x all is lt = absurd (cc)
in-front P (suc m) zero (y ∷ ys) x all is lt = let same : y ≡ x = cc in subst P same (All-head P y (take m ys) all)
in-front P (suc m) (suc k) (y ∷ ys) x all is lt = in-front P m k ys x (All-tail P y (take m ys) all) is (omega arith)

step-of-checkpoint : (Q : ℕ → Type 0) (o : Option Checkpoint) → IfSome o (λ c. Q c.step) → IfSome (option_map (λ c. c.step) o) Q
step-of-checkpoint Q None h = tt
step-of-checkpoint Q (Some c) h = h

module _ (n : ℕ) (coins : ℕ → Bool) (K : ℕ) (xs : List Step) (count : ℕ) (old : Recording) (preserved : IsRecording n coins K xs count old)
    (ys : List Step) (s : Span) (span : IsSpan xs ys s) where
  rest : length ys ≡ s.new_end + (length xs - s.old_end)
  rest = same-rest n coins K xs count old preserved ys s span

  placed : (p : Plan) → p.old_end ≡ s.old_end → p.new_end ≡ s.new_end → length ys < 2 ^ 64 → (c : Checkpoint) → IsCheckpoint n coins xs c
      → step_among_new p c ≡ s.new_end + (c.step - s.old_end)
  placed p old_end new_end few c h =
      (λ i. moved (old_end i) (new_end i) c.step) ∙ moved-within s.old_end s.new_end c.step (length xs) h.within (omega (arith, rest, few))

  -- how many steps it takes

  pub applied-within : (m : ℕ) → IsBefore K (length xs) s.first m old.checkpoints.items → (begin end applied : ℕ)
      → IfSome (slice_get old.checkpoints.items (m - 1)) (λ c. begin ≡ c.step) → applied + begin ≡ end → end ≤ length ys → applied ≤ (length ys - s.first) + K
  applied-within m b begin end applied at counted within =
      let here : begin ≡ b.checkpoint.step = some-at (λ c. begin ≡ c.step) old.checkpoints.items (m - 1) b.checkpoint b.here at in
      let near = b.near in let o = span.new_order in let w = span.new_within in
      omega (arith, here, near, counted, within)

  next-near : (m e next : ℕ) → IsBefore K (length xs) s.first m old.checkpoints.items → e ≤ length old.checkpoints.items
      → All (λ c. c.step < s.old_end) (take e old.checkpoints.items) → IfSome (slice_get old.checkpoints.items e) (λ c. s.old_end ≤ c.step) → next ≡ max e m
      → MatchOption (slice_get old.checkpoints.items next) (length xs ≤ s.old_end + K) (λ c. c.step ≤ s.old_end + K)
  next-near m e next b within front following is =
      elim (cases_lt m e) [
        | inl lt ↦ subst (λ k. MatchOption (slice_get old.checkpoints.items k) (length xs ≤ s.old_end + K) (λ c. c.step ≤ s.old_end + K)) (omega (arith, is, lt))
            (match-weaker (length xs ≤ s.old_end + K) (length xs ≤ s.old_end + K) (λ c. (s.old_end ≤ c.step) × (c.step ≤ s.old_end + K)) (λ c. c.step ≤ s.old_end + K)
            (slice_get old.checkpoints.items e) (λ h. h) (λ c h. h.1)
            (following-near K (length xs) s.old_end e old.checkpoints.items preserved.spaced within front following))
        | inr le ↦ subst (λ k. MatchOption (slice_get old.checkpoints.items k) (length xs ≤ s.old_end + K) (λ c. c.step ≤ s.old_end + K)) (omega (arith, is, le))
            (match-weaker (length xs ≤ b.checkpoint.step + K) (length xs ≤ s.old_end + K) (λ c. (b.checkpoint.step ≤ c.step) × (c.step ≤ b.checkpoint.step + K)) (λ c. c.step ≤ s.old_end + K)
            (slice_get old.checkpoints.items m) (λ h. let w = b.within in let o = span.old_order in omega (arith, h)) (λ c h. let w = b.within in let o = span.old_order in let u = h.1 in omega (arith, u))
            b.next)
      ]

  -- if both runs agree they agree at each checkpoint after
  agree-at : (far : ℕ) → AgreeAfterSpan n coins xs ys s far → (c : Checkpoint) → s.old_end + far ≤ c.step → AgreeAfterSpan n coins xs ys s (c.step - s.old_end)
  agree-at far agree c after =
      let same : drop (s.old_end + far) xs ≡ drop (s.new_end + far) ys =
      sym (drop-drop far s.old_end xs) ∙ ap (drop far) span.following ∙ drop-drop far s.new_end ys in
      subst (λ k. AgreeAt n (point_after n coins (take k xs) origin) (point_after n coins (take (s.new_end + (c.step - s.old_end)) ys) origin)) (omega (arith, after))
      (subst (λ k. AgreeAt n (point_after n coins (take ((s.old_end + far) + (c.step - (s.old_end + far))) xs) origin) (point_after n coins (take k ys) origin)) (omega (arith, after))
      (agree-later n coins xs ys (s.old_end + far) (s.new_end + far) same agree (c.step - (s.old_end + far))))

  -- and such a checkpoint is not missed
  not-missed : (p : Plan) → p.old_end ≡ s.old_end → p.new_end ≡ s.new_end → length ys < 2 ^ 64 → (number : ℕ) (c : Checkpoint)
      → slice_get old.checkpoints.items number ≡ Some c → s.old_end ≤ c.step → AgreeAfterSpan n coins xs ys s (c.step - s.old_end)
      → Misses n coins p ys old.outputs.records.items c → ⊥
  not-missed p old_end new_end few number c here after agree missed =
      let h : IsCheckpoint n coins xs c = at-get (IsCheckpoint n coins xs) old.checkpoints.items number c preserved.checkpoints here in
      let agree_there : AgreeAt n (point_after n coins (take c.step xs) origin) (point_after n coins (take (step_among_new p c) ys) origin) =
      subst (λ k. AgreeAt n (point_after n coins (take k xs) origin) (point_after n coins (take (step_among_new p c) ys) origin)) (omega (arith, after))
      (subst (λ k. AgreeAt n (point_after n coins (take (s.old_end + (c.step - s.old_end)) xs) origin) (point_after n coins (take k ys) origin))
      (sym (placed p old_end new_end few c h)) agree) in
      let records : take c.lengths.records old.outputs.records.items ≡ (outputs n coins (take c.step xs) origin).records =
      (λ i. take (h.lengths i).records (preserved.run.output i).records) ∙ ap (λ (o : RunOutput). o.records) (front-output n coins xs c.step) in
      missed xs h records agree_there

  -- if both runs agree this many steps after what was changed, it ends at most a stride after that
  pub ends-near : (p : Plan) → p.old_end ≡ s.old_end → p.new_end ≡ s.new_end → length ys < 2 ^ 64 → (far : ℕ) → AgreeAfterSpan n coins xs ys s far → (end : ℕ)
      → EndsSoon n coins p ys old.checkpoints.items old.outputs.records.items end → end ≤ length ys
      → (length xs ≤ (s.old_end + far) + K) ⊎ IsNearCheckpoint K (s.old_end + far) p.next old.checkpoints.items → end ≤ (s.new_end + far) + K
  ends-near p old_end new_end few far agree end soon within h =
      elim h [
        | inl near ↦ omega (arith, within, rest, near)
        | inr found ↦ end-at found
      ]
    where
      end-at : IsNearCheckpoint K (s.old_end + far) p.next old.checkpoints.items → end ≤ (s.new_end + far) + K
      end-at found =
          let c = found.checkpoint in
          let after = found.following in
          let near = found.near in
          let site = placed p old_end new_end few c (at-get (IsCheckpoint n coins xs) old.checkpoints.items found.number c preserved.checkpoints found.here) in
          elim (cases_lt (step_among_new p c) end) [
            | inl lt ↦
                absurd (not-missed p old_end new_end few found.number c found.here (omega (arith, after)) (agree-at far agree c after)
                (some-at (λ c. step_among_new p c < end → Misses n coins p ys old.outputs.records.items c) old.checkpoints.items found.number c found.here
                (soon found.number found.from) lt))
            | inr le ↦ omega (arith, le, site, near, after)
          ]

  pub few-steps : (p : Plan) → p.old_end ≡ s.old_end → p.new_end ≡ s.new_end → length ys < 2 ^ 64 → (m e : ℕ) → IsBefore K (length xs) s.first m old.checkpoints.items
      → e ≤ length old.checkpoints.items → All (λ c. c.step < s.old_end) (take e old.checkpoints.items)
      → IfSome (slice_get old.checkpoints.items e) (λ c. s.old_end ≤ c.step) → p.next ≡ max e m → (far : ℕ) → AgreeAfterSpan n coins xs ys s far → (begin end applied : ℕ)
      → EndsSoon n coins p ys old.checkpoints.items old.outputs.records.items end → end ≤ length ys
      → IfSome (slice_get old.checkpoints.items (m - 1)) (λ c. begin ≡ c.step) → applied + begin ≡ end → applied ≤ ((s.new_end - s.first) + 2 * K) + far
  few-steps p old_end new_end few m e b e_within front following next far agree begin end applied soon within at counted =
      let here : begin ≡ b.checkpoint.step = some-at (λ c. begin ≡ c.step) old.checkpoints.items (m - 1) b.checkpoint b.here at in
      let near = b.near in
      let o = span.new_order in
      let last : end ≤ (s.new_end + far) + K =
      ends-near p old_end new_end few far agree end soon within
      (near-checkpoint K (length xs) (s.old_end + far) p.next old.checkpoints.items preserved.spaced.near
      (match-weaker (length xs ≤ s.old_end + K) (length xs ≤ (s.old_end + far) + K) (λ c. c.step ≤ s.old_end + K) (λ c. c.step ≤ (s.old_end + far) + K)
      (slice_get old.checkpoints.items p.next) (λ l. omega (arith, l)) (λ c l. omega (arith, l)) (next-near m e p.next b e_within front following next))) in
      omega (arith, here, near, counted, last)

  -- where it ends: at an old checkpoint with a number, or after the last step if there is none

  checkpoint-moved : (k : ℕ) (c : Checkpoint) → slice_get old.checkpoints.items k ≡ Some c → length ys < 2 ^ 64 → moved s.old_end s.new_end c.step ≡ s.new_end + (c.step - s.old_end)
  checkpoint-moved k c here few =
      let w = (at-get (IsCheckpoint n coins xs) old.checkpoints.items k c preserved.checkpoints here).within in
      moved-within s.old_end s.new_end c.step (length xs) w (omega (arith, rest, few))

  pub stop-within : (q : ℕ) → length ys < 2 ^ 64 → conjugated_end s (length ys) (slice_get old.checkpoints.items q) ≤ length ys
  stop-within q few = at-stop (slice_get old.checkpoints.items q) refl
    where
      at-stop : (o : Option Checkpoint) → slice_get old.checkpoints.items q ≡ o → conjugated_end s (length ys) o ≤ length ys
      at-stop None is = omega arith
      at-stop (Some d) is =
          let w = (at-get (IsCheckpoint n coins xs) old.checkpoints.items q d preserved.checkpoints is).within in omega (arith, checkpoint-moved q d is few, rest, w)

  -- later checkpoints are not before that
  pub stop-order : (p : Plan) → p.old_end ≡ s.old_end → p.new_end ≡ s.new_end → length ys < 2 ^ 64 → (q k : ℕ) (c : Checkpoint) → q ≤ k → slice_get old.checkpoints.items k ≡ Some c
      → conjugated_end s (length ys) (slice_get old.checkpoints.items q) ≤ step_among_new p c
  stop-order p old_end new_end few q k c from here = at-stop (slice_get old.checkpoints.items q) refl
    where
      none-there : {X : Type 0} (i : ℕ) (zs : List X) → slice_get zs i ≡ None → length zs ≤ i
      none-there i [] e = omega arith
      none-there zero (z ∷ zs) e = absurd (cc)
      none-there (suc i) (z ∷ zs) e = let le = none-there i zs e in omega arith

      at-stop : (o : Option Checkpoint) → slice_get old.checkpoints.items q ≡ o → conjugated_end s (length ys) o ≤ step_among_new p c
      at-stop None is = absurd (omega (arith, none-there q old.checkpoints.items is, slice_get_within old.checkpoints.items k c here, from))
      at-stop (Some d) is =
          let later : d.step ≤ c.step =
          some-at (λ x. d.step ≤ x.step) old.checkpoints.items k c here
          (from-drop (λ x. d.step ≤ x.step) old.checkpoints.items q k from
          (All-weaker (λ x. (d.step ≤ x.step) × (x.step ≤ length xs)) (λ x. d.step ≤ x.step) (λ x h. h.0) (drop q old.checkpoints.items)
          (all-following K (length xs) d.step q old.checkpoints.items preserved.spaced.near
          (subst (λ o. IfSome o (λ x. d.step ≤ x.step)) (sym is) (omega arith))))) in
          omega (arith, later, old_end, new_end)

  -- if the runs agree there
  pub stop-ends : (q : ℕ) → length ys < 2 ^ 64 → ((d : Checkpoint) → slice_get old.checkpoints.items q ≡ Some d → (s.first + 1 ≤ d.step) × (s.old_end ≤ d.step))
      → ((d : Checkpoint) → slice_get old.checkpoints.items q ≡ Some d → AgreeBackAfterSpan n coins xs ys s (d.step - s.old_end))
      → EndsAt (AgreeBackAfterSpan n coins xs ys s) (checkpoint_steps old.checkpoints.items) s.first s.old_end s.new_end (length ys) (conjugated_end s (length ys) (slice_get old.checkpoints.items q))
  stop-ends q few beyond agree = at-stop (slice_get old.checkpoints.items q) refl
    where
      at-stop : (o : Option Checkpoint) → slice_get old.checkpoints.items q ≡ o
          → EndsAt (AgreeBackAfterSpan n coins xs ys s) (checkpoint_steps old.checkpoints.items) s.first s.old_end s.new_end (length ys) (conjugated_end s (length ys) o)
      at-stop None is = inl refl
      at-stop (Some d) is =
          let after = beyond d is in
          let here : slice_get (checkpoint_steps old.checkpoints.items) q ≡ Some d.step =
          slice_get-map (λ c. c.step) old.checkpoints.items q ∙ ap (option_map (λ c. c.step)) is in
          inr (
            q,
            subst (λ o. IsSomeAnd o (λ c. MayBeMet s.first s.old_end c × (moved s.old_end s.new_end d.step ≡ s.new_end + (c - s.old_end)) × AgreeBackAfterSpan n coins xs ys s (c - s.old_end)))
                (sym here) ((omega (arith, after.0), after.1), checkpoint-moved q d is few, agree d is),
          )

  -- checkpoints from the first on that may be met are after what was changed
  pub next-beyond : (m next : ℕ) → m ≤ next → IfSome (slice_get old.checkpoints.items m) (λ c. s.first + 1 ≤ c.step) → IfSome (slice_get old.checkpoints.items next) (λ c. s.old_end ≤ c.step)
      → (k : ℕ) (c : Checkpoint) → next ≤ k → slice_get old.checkpoints.items k ≡ Some c → (s.first + 1 ≤ c.step) × (s.old_end ≤ c.step)
  next-beyond m next le later following k c from here = (
    some-at (λ d. s.first + 1 ≤ d.step) old.checkpoints.items k c here
        (from-drop (λ d. s.first + 1 ≤ d.step) old.checkpoints.items m k (omega (arith, le, from))
        (All-weaker (λ d. (s.first + 1 ≤ d.step) × (d.step ≤ length xs)) (λ d. s.first + 1 ≤ d.step) (λ d h. h.0) (drop m old.checkpoints.items)
        (all-following K (length xs) (s.first + 1) m old.checkpoints.items preserved.spaced.near later))),
    some-at (λ d. s.old_end ≤ d.step) old.checkpoints.items k c here
        (from-drop (λ d. s.old_end ≤ d.step) old.checkpoints.items next k from (all-next n coins K xs count old preserved ys s span next following)),
  )

  -- where it meets a checkpoint they agree
  pub met-agrees : (p : Plan) → p.window ≡ old.window → p.old_end ≡ s.old_end → p.new_end ≡ s.new_end → length ys < 2 ^ 64 → (r : Replay) → IsRunFromStart n coins (take r.step ys) (program_state r.tableau (output_of r.outputs))
      → (j : ℕ) (d : Checkpoint) → slice_get old.checkpoints.items j ≡ Some d → s.old_end ≤ d.step → MeetsAt n p r old.outputs.records.items old.outputs.free.items d
      → AgreeBackAfterSpan n coins xs ys s (d.step - s.old_end)
  met-agrees p window old_end new_end few r run j d found after met_at =
      let h : IsCheckpoint n coins xs d = at-get (IsCheckpoint n coins xs) old.checkpoints.items j d preserved.checkpoints found in
      let step : r.step ≡ s.new_end + (d.step - s.old_end) = sym met_at.0 ∙ placed p old_end new_end few d h in
      let back : drop d.step xs ≡ drop (s.new_end + (d.step - s.old_end)) ys =
      ap (λ k. drop k xs) (omega (arith, after))
      ∙ sym (drop-drop (d.step - s.old_end) s.old_end xs)
      ∙ ap (drop (d.step - s.old_end)) span.following
      ∙ drop-drop (d.step - s.old_end) s.new_end ys in
      let met = meets-agree n p.window coins xs (take r.step ys) d r.tableau (output_of r.outputs) old.outputs.records.items old.outputs.free.items h
      (ap (λ (o : RunOutput). o.records) preserved.run.output) (ap (λ (o : RunOutput). o.free) preserved.run.output) run met_at.1 in
      let far : d.step ≡ s.old_end + (d.step - s.old_end) = omega (arith, after) in (
        subst (λ x. x) (λ i. MayHaveCoin n coins (back i) (point_after n coins (take (far i) xs) origin) (point_after n coins (take (step i) ys) origin).coin) met.0,
        p.window,
        subst (λ zs. looks_too_far p.window zs ≡ false) back
            (near-enough old.window p.window (drop d.step xs) (omega (arith, window)) (All-drop (LooksWithin old.window) d.step xs preserved.has_pivots.near)),
        subst (λ x. x)
            (λ i. AgreeBack n p.window (with_coin (point_after n coins (take (step i) ys) origin).coin (point_after n coins (take (far i) xs) origin)) (point_after n coins (take (step i) ys) origin)) met.1,
      )

  -- and it ended at no checkpoint before that, since the runs do not agree there
  pub none-before : (p : Plan) → p.old_end ≡ s.old_end → p.new_end ≡ s.new_end → length ys < 2 ^ 64 → (m e : ℕ)
      → All (λ c. c.step < s.first + 1) (take m old.checkpoints.items) → All (λ c. c.step < s.old_end) (take e old.checkpoints.items) → p.next ≡ max e m → (end : ℕ)
      → EndsSoon n coins p ys old.checkpoints.items old.outputs.records.items end
      → NoneBefore (AgreeAfterSpan n coins xs ys s) (checkpoint_steps old.checkpoints.items) s.first s.old_end s.new_end end
  none-before p old_end new_end few m e front taken next end soon number =
      subst (λ o. IfSome o NotThere) (sym (slice_get-map (λ c. c.step) old.checkpoints.items number))
      (step-of-checkpoint NotThere (slice_get old.checkpoints.items number) (if-some (λ c. NotThere c.step) (slice_get old.checkpoints.items number) not-there))
    where
      NotThere : ℕ → Type 0
      NotThere c = MayBeMet s.first s.old_end c → s.new_end + (c - s.old_end) < end → AgreeAfterSpan n coins xs ys s (c - s.old_end) → ⊥

      may-meet : (c : Checkpoint) → slice_get old.checkpoints.items number ≡ Some c → s.first < c.step → s.old_end ≤ c.step → p.next ≤ number
      may-meet c is beyond after =
          elim (cases_lt number m) [
            | inl lt ↦ let at = in-front (λ c. c.step < s.first + 1) m number old.checkpoints.items c front is lt in absurd (omega (arith, at, beyond))
            | inr le ↦
                elim (cases_lt number e) [
                  | inl lt ↦ let at = in-front (λ c. c.step < s.old_end) e number old.checkpoints.items c taken is lt in absurd (omega (arith, at, after))
                  | inr more ↦ omega (arith, next, le, more)
                ]
          ]

      not-there : (c : Checkpoint) → slice_get old.checkpoints.items number ≡ Some c → NotThere c.step
      not-there c is may before agree =
          let site = placed p old_end new_end few c (at-get (IsCheckpoint n coins xs) old.checkpoints.items number c preserved.checkpoints is) in
          not-missed p old_end new_end few number c is may.1 agree
          (some-at (λ c. step_among_new p c < end → Misses n coins p ys old.outputs.records.items c) old.checkpoints.items number c is
          (soon number (may-meet c is may.0 may.1)) (omega (arith, site, before)))

  module _ (m : ℕ) (b : IsBefore K (length xs) s.first m old.checkpoints.items) (begin end applied : ℕ)
      (at : IfSome (slice_get old.checkpoints.items (m - 1)) (λ c. begin ≡ c.step)) (counted : applied + begin ≡ end)
      (ends : EndsAt (AgreeBackAfterSpan n coins xs ys s) (checkpoint_steps old.checkpoints.items) s.first s.old_end s.new_end (length ys) end) where
    here : begin ≡ b.checkpoint.step
    here = some-at (λ c. begin ≡ c.step) old.checkpoints.items (m - 1) b.checkpoint b.here at

    -- so it took just this many steps
    pub is-counted : m ≤ length old.checkpoints.items → All (λ c. c.step < s.first + 1) (take m old.checkpoints.items)
        → IfSome (slice_get old.checkpoints.items m) (λ c. s.first + 1 ≤ c.step)
        → NoneBefore (AgreeAfterSpan n coins xs ys s) (checkpoint_steps old.checkpoints.items) s.first s.old_end s.new_end end
        → IsCounted (AgreeAfterSpan n coins xs ys s) (AgreeBackAfterSpan n coins xs ys s) (checkpoint_steps old.checkpoints.items) s.first s.old_end s.new_end (length ys) applied
    is-counted within front following none =
        let last : last_until s.first 0 (checkpoint_steps old.checkpoints.items) ≡ b.checkpoint.step =
        last-is s.first m 0 old.checkpoints.items within front following ∙ (front-spaced n coins K xs count old preserved ys s span m b).1 in
        record { end = end; count = omega (arith, here, last, counted); ends = ends; none_before = none }

-- coins of some of the steps

pub coins-following : (i : ℕ) (xs : List Step) → all_coins_of (drop i xs) ≤ all_coins_of xs
coins-following i xs = omega (arith, ap all_coins_of (take-append-drop i xs), coins-append (take i xs) (drop i xs))
