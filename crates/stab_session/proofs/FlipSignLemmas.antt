-- Conjugated runs: what is stored once a frame conjugated a run where it lies is the run of the new steps, and this many steps were followed for it.
use Rattle.stab_session.proofs.Names.{◌≡◌, ℕ, zero, suc, ◌+◌, ◌-◌, ◌*◌, ◌<◌, ◌≤◌, inl, inr, refl, sym, ◌∙◌, ap, subst, Bool, false, List, [], ◌∷◌, ◌++◌, length, max, take, drop, map, All, Option, Some, None, arith, IfSome, MatchOption, cases_lt, drop-drop, All-append, All-drop, All-head, All-nil, All-weaker, take-add, with_sign, strings_anticommute, member, TableauState, stabilises, IsConjugated, Step, looks_too_far, Span, Lengths, Point, RunOutput, origin, joined, point_after, outputs, looked_up, ones, AgreeAt, StepFits, output_of, front_of, rest_of, AgreeBack, with_coin, randomness-is-coins, front-output, records-are-records, flipped_output, PivotsState, LooksWithin, PropagationState, Checkpoint, IsCheckpoint, checkpoint_steps, moved, moved_checkpoint, all_saved, IsSpaced, Near, last_of, Plan, KeepsPivotList, Misses, EndsSoon, step_among_new, Recording, Followed, Conjugating, EndsAt, IsCounted, IsRecording, IsSpan, AgreeAfterSpan, AgreeBackAfterSpan, IsCheckpointCount, conjugated_end, StaysNear, IsTakenOver, HasConjugated, span_meeting, checkpoints_conjugated, same-future, MayHaveCoin, with_states}
use Rattle.std.specs.Prelude.{slice_get}
use Rattle.stab_recording.proofs.RecordedReplayLemmas.{near-enough}
use Rattle.stab_recording.proofs.CutLemmas.{get-drop}
use Rattle.stab_session.proofs.SpacingLemmas.{IsBefore, all-saved-append, all-saved-all, spaced-all, all-following, near-checkpoint, moved-within}
use Rattle.stab_session.proofs.FollowLemmas.{at-get, some-at, if-some, from-drop, before-first, front-checkpoints, front-spaced, same-rest}
use Rattle.stab_session.proofs.CountLemmas.{applied-within, ends-near, none-before, is-counted, stop-within, stop-order, stop-ends, next-beyond}
use Rattle.stab_session.proofs.ConjugateSpacingLemmas.{conjugated-near, near-both, stays-following}

-- what a frame that was propagated past the sites of a change and over the steps after its span says of the run of the new steps, if the old
-- run gave this
pub record DeterminesRun (n : ℕ) (coins : ℕ → Bool) (xs ys : List Step) (s : Span) (checkpoints : List Checkpoint) (o : RunOutput) (strings : PivotsState) (window : ℕ)
    (from : Lengths) (w : PropagationState) (passed : List Checkpoint) (conjugated : List TableauState) : Type 0 where
  pub output : outputs n coins ys origin ≡ joined (front_of from o) (flipped_output (rest_of from o) (record w.flips { free = [] }))
  pub group : IsConjugated n w.letters (member (point_after n coins xs origin).trace) (member (point_after n coins ys origin).trace)
  pub moved_checkpoints : All (IsCheckpoint n coins ys) (passed ++ checkpoints_conjugated s conjugated checkpoints)
  pub has_pivots : KeepsPivotList n coins ys strings (outputs n coins ys origin).free window
  pub distinct : (k : ℕ) (c : Checkpoint) → k < length conjugated → slice_get checkpoints k ≡ Some c
      → AgreeAt n (point_after n coins (take c.step xs) origin) (point_after n coins (take (s.new_end + (c.step - s.old_end)) ys) origin) → ⊥
  pub agree : (c : Checkpoint) → slice_get checkpoints (length conjugated) ≡ Some c
      → AgreeBack n window (with_coin (point_after n coins (take (s.new_end + (c.step - s.old_end)) ys) origin).coin (point_after n coins (take c.step xs) origin))
      (point_after n coins (take (s.new_end + (c.step - s.old_end)) ys) origin)
      × MayHaveCoin n coins (drop (c.step - s.old_end) (drop s.new_end ys)) (point_after n coins (take c.step xs) origin) (point_after n coins (take (s.new_end + (c.step - s.old_end)) ys) origin).coin

-- a checkpoint of two runs that gave the same is at one point of both
pub checkpoint-agrees : (n : ℕ) (coins : ℕ → Bool) (xs zs : List Step) (c : Checkpoint) (records : List Bool) → IsCheckpoint n coins xs c → IsCheckpoint n coins zs c
    → take c.lengths.records records ≡ (outputs n coins (take c.step xs) origin).records → take c.lengths.records records ≡ (outputs n coins (take c.step zs) origin).records
    → AgreeAt n (point_after n coins (take c.step xs) origin) (point_after n coins (take c.step zs) origin)
checkpoint-agrees n coins xs zs c records is also there here = record {
  group = λ p size. sym (is.group p size) ∙ also.group p size;
  coin =
      sym (randomness-is-coins n coins (take c.step xs))
      ∙ sym (ap (λ (l : Lengths). l.free) is.lengths)
      ∙ ap (λ (l : Lengths). l.free) also.lengths
      ∙ randomness-is-coins n coins (take c.step zs);
  records =
      sym (records-are-records n coins (take c.step xs))
      ∙ sym there
      ∙ here
      ∙ records-are-records n coins (take c.step zs);
}

pub agree-trans : (n : ℕ) (a b c : Point) → AgreeAt n a b → AgreeAt n b c → AgreeAt n a c
agree-trans n a b c f g = record {
  group = λ p size. f.group p size ∙ g.group p size;
  coin = f.coin ∙ g.coin;
  records = f.records ∙ g.records;
}

-- the records of a recording up to a checkpoint of it
pub preserved-records : (n : ℕ) (coins : ℕ → Bool) (K : ℕ) (xs : List Step) (count : ℕ) (r : Recording) → IsRecording n coins K xs count r → (c : Checkpoint) → IsCheckpoint n coins xs c
    → take c.lengths.records r.outputs.records.items ≡ (outputs n coins (take c.step xs) origin).records
preserved-records n coins K xs count r preserved c is =
    (λ i. take (is.lengths i).records (preserved.run.output i).records)
    ∙ ap (λ (o : RunOutput). o.records) (front-output n coins xs c.step)

-- the coins of a run serve another one, if those of one that agrees with it do
may-have-as : (n : ℕ) (coins : ℕ → Bool) (zs : List Step) (a b : Point) (c : ℕ) → AgreeAt n a b → MayHaveCoin n coins zs b c → MayHaveCoin n coins zs a c
may-have-as n coins zs a b c agree (inl same) = inl (agree.coin ∙ same)
may-have-as n coins zs a b c agree (inr none) = inr (ap (λ (o : RunOutput). ones o.free) (same-future n coins zs a b agree).0 ∙ none)

-- this many checkpoints are before a step after another one, and those from there up to another count before the end of a span
pub record AreInside (s : Span) (checkpoints : List Checkpoint) (m k : ℕ) : Type 0 where
  pub order : m ≤ k
  pub within : k ≤ length checkpoints
  pub among : All (λ c. c.step < s.old_end) (take (k - m) (drop m checkpoints))

-- if there are some, that step is before the end
first-among : (m k site end : ℕ) (cs : List Checkpoint) → 0 < k → m + k ≤ length cs → All (λ c. c.step < end) (take k (drop m cs)) → IfSome (slice_get cs m) (λ c. site ≤ c.step)
    → site < end
first-among zero zero site end cs some within among following = absurd (omega (arith, some))
first-among zero (suc k) site end [] some within among following = absurd (omega (arith, within))
first-among zero (suc k) site end (c ∷ cs) some within among following = let here = All-head (λ x. x.step < end) c (take k cs) among in omega (arith, here, following)
first-among (suc m) k site end [] some within among following = absurd (omega (arith, within))
first-among (suc m) k site end (c ∷ cs) some within among following = first-among m k site end cs some (omega (arith, within)) among following

-- so none of them is at the end, or there are none
before-end : (s : Span) (checkpoints : List Checkpoint) (m k : ℕ) → AreInside s checkpoints m k → IsCheckpointCount (s.first + 1) checkpoints m
    → (e : ℕ) × All (λ c. c.step < s.old_end) (take e checkpoints) × (k ≡ max e m)
before-end s checkpoints m k inside counted =
    elim (cases_lt m k) [
      | inl lt ↦ (k, all-before lt, omega (arith, lt))
      | inr le ↦ (0, All-nil (λ c. c.step < s.old_end), (let order = inside.order in omega (arith, le, order)))
    ]
  where
    all-before : m < k → All (λ c. c.step < s.old_end) (take k checkpoints)
    all-before lt =
        subst (All (λ c. c.step < s.old_end))
        (sym (take-add m (k - m) checkpoints) ∙ ap (λ i. take i checkpoints) {x = m + (k - m)} {y = k} (omega (arith, lt)))
        (All-append (λ c. c.step < s.old_end) (take m checkpoints) (take (k - m) (drop m checkpoints))
        (All-weaker (λ c. c.step < s.first + 1) (λ c. c.step < s.old_end)
        (λ c before. let there : s.first + 1 < s.old_end =
        first-among m (k - m) (s.first + 1) s.old_end checkpoints (omega (arith, lt)) (let w = inside.within in omega (arith, lt, w)) inside.among counted.following in omega (arith, before, there))
        (take m checkpoints) counted.before)
        inside.among)

module _ {n : ℕ} {coins : ℕ → Bool} {K : ℕ} {xs ys : List Step} {s : Span} {old : Recording} (count : ℕ) (preserved : IsRecording n coins K xs count old) (span : IsSpan xs ys s)
    (few : length ys ≤ 1048576) (m j : ℕ) (counted : IsCheckpointCount (s.first + 1) old.checkpoints.items m) (inside : AreInside s old.checkpoints.items m j) (t : Conjugating)
    (determines : DeterminesRun n coins xs ys s (drop j old.checkpoints.items) (output_of old.outputs) old.strings old.window t.from t.rest.propagation t.passed.items t.rest.conjugated.items)
    (number : t.rest.number ≡ j) (meeting : t.rest.meeting ≡ span_meeting s) where
  abbrev pub near : IsBefore K (length xs) s.first m old.checkpoints.items
  near = before-first n coins K xs count old preserved ys s span m counted.within counted.before counted.following

  rest : length ys ≡ s.new_end + (length xs - s.old_end)
  rest = same-rest n coins K xs count old preserved ys s span

  is-checkpoint : (k : ℕ) (c : Checkpoint) → slice_get old.checkpoints.items k ≡ Some c → IsCheckpoint n coins xs c
  is-checkpoint k c here = at-get (IsCheckpoint n coins xs) old.checkpoints.items k c preserved.checkpoints here

  -- what is stored is the run of the new steps
  pub conjugated-preserved : (new : Recording) (last : ℕ) → IsTakenOver old m K t new → Near K (near.checkpoint.step ∷ checkpoint_steps t.passed.items)
      → last_of near.checkpoint.step (checkpoint_steps t.passed.items) ≡ last → StaysNear K s (length ys) last (slice_get old.checkpoints.items j) → All (StepFits n) ys
      → IsRecording n coins K ys (length old.observables.items) new
  conjugated-preserved new last put close last_is stays fits = record {
    qubits = put.qubits ∙ preserved.qubits;
    run = record {
      group = λ p size.
          put_conjugated p size
          ∙ preserved.run.group (with_sign (strings_anticommute t.rest.propagation.letters p.letters) p) size
          ∙ sym (determines.group p size);
      output = put.output ∙ sym determines.output;
    };
    observables = put.observables;
    fits = fits;
    few = few;
    has_pivots =
        subst (λ x. x) (λ i. KeepsPivotList n coins ys (sym put.strings i) (sym (put.output ∙ sym determines.output) i).free (sym put.window i)) determines.has_pivots;
    few_strings = omega (arith, ap (λ (s : PivotsState). s.most) put.strings, preserved.few_strings);
    checkpoints =
        subst (All (IsCheckpoint n coins ys)) (sym put_checkpoints)
        (all-saved-all (IsCheckpoint n coins ys) K (t.passed.items ++ checkpoints_conjugated s t.rest.conjugated.items (drop j old.checkpoints.items))
        (take m old.checkpoints.items) determines.moved_checkpoints (front-checkpoints n coins K xs count old preserved ys s span m counted.before));
    spaced =
        subst (λ cs. IsSpaced K (length ys) (checkpoint_steps cs)) (sym put_checkpoints)
        (spaced-all K (length ys) near.checkpoint.step (t.passed.items ++ checkpoints_conjugated s t.rest.conjugated.items (drop j old.checkpoints.items))
        (take m old.checkpoints.items)
        (near-both K (length ys) near.checkpoint.step last t.passed.items (checkpoints_conjugated s t.rest.conjugated.items (drop j old.checkpoints.items)) close last_is
        (conjugated-near K (length xs) (length ys) last j s t.rest.conjugated.items old.checkpoints.items span.old_within rest (omega (arith, few)) stays preserved.spaced.near))
        (front-spaced n coins K xs count old preserved ys s span m near).0 (front-spaced n coins K xs count old preserved ys s span m near).1);
  }
    where
      put_checkpoints : new.checkpoints.items
          ≡ all_saved K (t.passed.items ++ checkpoints_conjugated s t.rest.conjugated.items (drop j old.checkpoints.items)) (take m old.checkpoints.items)
      put_checkpoints =
          put.checkpoints
          ∙ (λ i. all_saved K (map (moved_checkpoint (meeting i)) (with_states t.rest.conjugated.items (drop (number i) old.checkpoints.items))) (all_saved K t.passed.items (take m old.checkpoints.items)))
          ∙ sym (all-saved-append K t.passed.items (checkpoints_conjugated s t.rest.conjugated.items (drop j old.checkpoints.items)) (take m old.checkpoints.items))

      put_conjugated : IsConjugated n t.rest.propagation.letters (stabilises old.tableau) (stabilises new.tableau)
      put_conjugated = subst (λ k. IsConjugated k t.rest.propagation.letters (stabilises old.tableau) (stabilises new.tableau)) preserved.qubits put.conjugated

  -- the first checkpoint that was not conjugated, if there is one, is after the span
  abbrev stop : Option Checkpoint
  stop = slice_get old.checkpoints.items (j + length t.rest.conjugated.items)

  abbrev plan : Plan
  plan = record { total = length ys; stride = K; old_end = s.old_end; new_end = s.new_end; next = j; window = old.window }

  following-first : (k : ℕ) (c : Checkpoint) → m ≤ k → slice_get old.checkpoints.items k ≡ Some c → s.first + 1 ≤ c.step
  following-first k c from here =
      some-at (λ d. s.first + 1 ≤ d.step) old.checkpoints.items k c here
      (from-drop (λ d. s.first + 1 ≤ d.step) old.checkpoints.items m k from
      (All-weaker (λ d. (s.first + 1 ≤ d.step) × (d.step ≤ length xs)) (λ d. s.first + 1 ≤ d.step) (λ d h. h.0) (drop m old.checkpoints.items)
      (all-following K (length xs) (s.first + 1) m old.checkpoints.items preserved.spaced.near counted.following)))

  module _ (last : ℕ) (stays : StaysNear K s (length ys) last (slice_get old.checkpoints.items j)) where
    next-following : IfSome (slice_get old.checkpoints.items j) (λ c. s.old_end ≤ c.step)
    next-following = stays-following K s (length ys) last (slice_get old.checkpoints.items j) stays

    following-span : (k : ℕ) (c : Checkpoint) → j ≤ k → slice_get old.checkpoints.items k ≡ Some c → s.old_end ≤ c.step
    following-span k c from here =
        some-at (λ d. s.old_end ≤ d.step) old.checkpoints.items k c here
        (from-drop (λ d. s.old_end ≤ d.step) old.checkpoints.items j k from
        (All-weaker (λ d. (s.old_end ≤ d.step) × (d.step ≤ length xs)) (λ d. s.old_end ≤ d.step) (λ d h. h.0) (drop j old.checkpoints.items)
        (all-following K (length xs) s.old_end j old.checkpoints.items preserved.spaced.near next-following)))

    site : (k : ℕ) (c : Checkpoint) → slice_get old.checkpoints.items k ≡ Some c → moved s.old_end s.new_end c.step ≡ s.new_end + (c.step - s.old_end)
    site k c here = let w = (is-checkpoint k c here).within in moved-within s.old_end s.new_end c.step (length xs) w (omega (arith, rest, few))

    -- no run with these checkpoints and records agrees with the new one at a conjugated checkpoint
    missed : (k : ℕ) (c : Checkpoint) → j ≤ k → k < j + length t.rest.conjugated.items → slice_get old.checkpoints.items k ≡ Some c
        → Misses n coins plan ys old.outputs.records.items c
    missed k c from before here zs also records agree =
        determines.distinct (k - j) c (omega (arith, from, before))
        (get-drop j (k - j) old.checkpoints.items ∙ ap (slice_get old.checkpoints.items) (omega (arith, from)) ∙ here)
        (agree-trans n (point_after n coins (take c.step xs) origin) (point_after n coins (take c.step zs) origin)
        (point_after n coins (take (s.new_end + (c.step - s.old_end)) ys) origin)
        (checkpoint-agrees n coins xs zs c old.outputs.records.items (is-checkpoint k c here) also (preserved-records n coins K xs count old preserved c (is-checkpoint k c here)) records)
        (subst (λ i. AgreeAt n (point_after n coins (take c.step zs) origin) (point_after n coins (take i ys) origin)) (site k c here) agree))

    soon : EndsSoon n coins plan ys old.checkpoints.items old.outputs.records.items (conjugated_end s (length ys) stop)
    soon k from =
        if-some (λ c. step_among_new plan c < conjugated_end s (length ys) stop → Misses n coins plan ys old.outputs.records.items c) (slice_get old.checkpoints.items k)
        (λ c here before.
        elim (cases_lt k (j + length t.rest.conjugated.items)) [
          | inl lt ↦ missed k c from lt here
          | inr le ↦ let order = stop-order n coins K xs count old preserved ys s span plan refl refl (omega (arith, few)) (j + length t.rest.conjugated.items) k c le here in
              absurd (omega (arith, order, before))
        ])

    end-within : conjugated_end s (length ys) stop ≤ length ys
    end-within = stop-within n coins K xs count old preserved ys s span (j + length t.rest.conjugated.items) (omega (arith, few))

    -- the first checkpoint after the span is near its end
    next-near : (zs : List Step) (far : ℕ) → length ys ≡ s.new_end + (length zs - s.old_end)
        → MatchOption (slice_get old.checkpoints.items j) (length zs ≤ (s.old_end + far) + K) (λ c. c.step ≤ (s.old_end + far) + K)
    next-near zs far long = at-next (slice_get old.checkpoints.items j) refl stays
      where
        at-next : (o : Option Checkpoint) → slice_get old.checkpoints.items j ≡ o → StaysNear K s (length ys) last o
            → MatchOption o (length zs ≤ (s.old_end + far) + K) (λ c. c.step ≤ (s.old_end + far) + K)
        at-next None is close = let a = close.0 in let b = close.1 in omega (arith, a, b, long)
        at-next (Some c) is close = let a = close.0 in let b = close.1.1 in omega (arith, a, b, site j c is)

    -- whichever old run has these checkpoints
    module _ (zs : List Step) (other : ℕ) (also : IsRecording n coins K zs other old) (span_also : IsSpan zs ys s) where
      also-checkpoint : (k : ℕ) (c : Checkpoint) → slice_get old.checkpoints.items k ≡ Some c → IsCheckpoint n coins zs c
      also-checkpoint k c here = at-get (IsCheckpoint n coins zs) old.checkpoints.items k c also.checkpoints here

      also_near : IsBefore K (length zs) s.first m old.checkpoints.items
      also_near = before-first n coins K zs other old also ys s span_also m counted.within counted.before counted.following

      conjugated-ends : EndsAt (AgreeBackAfterSpan n coins zs ys s) (checkpoint_steps old.checkpoints.items) s.first s.old_end s.new_end (length ys) (conjugated_end s (length ys) stop)
      conjugated-ends =
          stop-ends n coins K zs other old also ys s span_also (j + length t.rest.conjugated.items) (omega (arith, few))
          (λ d here. next-beyond n coins K zs other old also ys s span_also m j inside.order counted.following next-following (j + length t.rest.conjugated.items) d (omega arith) here)
          (λ d is.
          let after : s.old_end ≤ d.step = following-span (j + length t.rest.conjugated.items) d (omega arith) is in
          let on : AgreeAt n (point_after n coins (take d.step zs) origin) (point_after n coins (take d.step xs) origin) =
          checkpoint-agrees n coins zs xs d old.outputs.records.items (also-checkpoint (j + length t.rest.conjugated.items) d is) (is-checkpoint (j + length t.rest.conjugated.items) d is)
          (preserved-records n coins K zs other old also d (also-checkpoint (j + length t.rest.conjugated.items) d is)) (preserved-records n coins K xs count old preserved d (is-checkpoint (j + length t.rest.conjugated.items) d is)) in
          let agreed = determines.agree d (get-drop j (length t.rest.conjugated.items) old.checkpoints.items ∙ is) in
          let from : d.step ≡ s.old_end + (d.step - s.old_end) = omega (arith, after) in
          let back : drop d.step zs ≡ drop (s.new_end + (d.step - s.old_end)) ys =
          ap (λ k. drop k zs) from
          ∙ sym (drop-drop (d.step - s.old_end) s.old_end zs)
          ∙ ap (drop (d.step - s.old_end)) span_also.following
          ∙ drop-drop (d.step - s.old_end) s.new_end ys in (
            subst (λ x. x)
                (λ i. MayHaveCoin n coins (drop-drop (d.step - s.old_end) s.new_end ys i) (point_after n coins (take (from i) zs) origin) (point_after n coins (take (s.new_end + (d.step - s.old_end)) ys) origin).coin)
                (may-have-as n coins (drop (d.step - s.old_end) (drop s.new_end ys)) (point_after n coins (take d.step zs) origin) (point_after n coins (take d.step xs) origin)
                (point_after n coins (take (s.new_end + (d.step - s.old_end)) ys) origin).coin on agreed.1),
            old.window,
            subst (λ ws. looks_too_far old.window ws ≡ false) back
                (near-enough old.window old.window (drop d.step zs) (omega arith) (All-drop (LooksWithin old.window) d.step zs also.has_pivots.near)),
            subst (λ k. AgreeBack n old.window
                (with_coin (point_after n coins (take (s.new_end + (d.step - s.old_end)) ys) origin).coin (point_after n coins (take k zs) origin)) (point_after n coins (take (s.new_end + (d.step - s.old_end)) ys) origin)) from
                (record {
                  group = λ p size. on.group p size ∙ agreed.0.group p size;
                  coin = refl;
                  records = λ i le. ap (λ bits. looked_up bits i) on.records ∙ agreed.0.records i le;
                }),
          ))

      conjugated-few : (far followed : ℕ) → AgreeAfterSpan n coins zs ys s far → followed + also_near.checkpoint.step ≡ conjugated_end s (length ys) stop
          → followed ≤ ((s.new_end - s.first) + 2 * K) + far
      conjugated-few far followed agree took =
          let o = span_also.new_order in
          let from = also_near.near in
          let end : conjugated_end s (length ys) stop ≤ (s.new_end + far) + K =
          ends-near n coins K zs other old also ys s span_also plan refl refl (omega (arith, few)) far agree (conjugated_end s (length ys) stop) soon end-within
          (near-checkpoint K (length zs) (s.old_end + far) j old.checkpoints.items also.spaced.near (next-near zs far (same-rest n coins K zs other old also ys s span_also))) in
          omega (arith, took, from, end, o)

      conjugated-counted : (followed : ℕ) → IfSome (slice_get old.checkpoints.items (m - 1)) (λ c. followed + c.step ≡ conjugated_end s (length ys) stop)
          → IsCounted (AgreeAfterSpan n coins zs ys s) (AgreeBackAfterSpan n coins zs ys s) (checkpoint_steps old.checkpoints.items) s.first s.old_end s.new_end (length ys) followed
      conjugated-counted followed took =
          is-counted n coins K zs other old also ys s span_also m also_near also_near.checkpoint.step (conjugated_end s (length ys) stop) followed
          (subst (λ o. IfSome o (λ c. also_near.checkpoint.step ≡ c.step)) (sym also_near.here) refl)
          (some-at (λ c. followed + c.step ≡ conjugated_end s (length ys) stop) old.checkpoints.items (m - 1) also_near.checkpoint also_near.here took)
          conjugated-ends counted.within counted.before counted.following
          (none-before n coins K zs other old also ys s span_also plan refl refl (omega (arith, few)) m ends.0 counted.before ends.1 ends.2
          (conjugated_end s (length ys) stop) soon)
        where
          ends : (e : ℕ) × All (λ c. c.step < s.old_end) (take e old.checkpoints.items) × (j ≡ max e m)
          ends = before-end s old.checkpoints.items m j inside counted

    -- so the run was conjugated
    pub has-conjugated : (new : Recording) → IsTakenOver old m K t new → Near K (near.checkpoint.step ∷ checkpoint_steps t.passed.items)
        → last_of near.checkpoint.step (checkpoint_steps t.passed.items) ≡ last → All (StepFits n) ys → (f : Followed)
        → IfSome (slice_get old.checkpoints.items (m - 1)) (λ c. (f.applied + f.by_frame) + c.step ≡ conjugated_end s (length ys) stop)
        → HasConjugated n coins K ys (length old.observables.items) s old f new
    has-conjugated new put close last_is fits f took = record {
      preserved = conjugated-preserved new last put close last_is stays fits;
      way = record {
        most =
            applied-within n coins K xs count old preserved ys s span m near near.checkpoint.step (conjugated_end s (length ys) stop) (f.applied + f.by_frame)
            (subst (λ o. IfSome o (λ c. near.checkpoint.step ≡ c.step)) (sym near.here) refl)
            (some-at (λ c. (f.applied + f.by_frame) + c.step ≡ conjugated_end s (length ys) stop) old.checkpoints.items (m - 1) near.checkpoint near.here took) end-within;
        few = λ zs other far also span_also agree.
            conjugated-few zs other also span_also far (f.applied + f.by_frame) agree
            (some-at (λ c. (f.applied + f.by_frame) + c.step ≡ conjugated_end s (length ys) stop) old.checkpoints.items (m - 1) (also_near zs other also span_also).checkpoint
            (also_near zs other also span_also).here took);
        counted = λ zs other also span_also. conjugated-counted zs other also span_also (f.applied + f.by_frame) took;
      };
    }
