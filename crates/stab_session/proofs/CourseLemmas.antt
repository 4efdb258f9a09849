-- The course of an edit that is followed: from what each call ensures to what is stored at the end.
use Rattle.stab_session.proofs.Names.{◌≡◌, ℕ, ◌+◌, ◌-◌, ◌*◌, ◌^◌, ◌<◌, ◌≤◌, inl, Some, max, sym, ◌∙◌, ap, subst, Bool, false, List, [], length, take, drop, All, None, replicate, arith, IfSome, length-drop, slice_get_within, same_Some, IfSome_then, Step, HasDistinctQubits, Checkpoint, Replay, Plan, End, Last, Joined, Recording, Span, coins-steps, Prepared, Rest, ones, RunOutput, all_coins_of, with_additions, EndsAt, IsCounted, StepFits, output_of, PivotsState, checkpoint_steps, moved, IsOldRun, IsRecording, IsSameRecording, Follows, AgreeAfterSpan, AgreeBackAfterSpan, IsReplay, Ascending, IsEnd, MeetsAt, EndsSoon, IsCheckpointCount, Begins, HasCheckpoint, IsRest, IsOldRest, IsPrepared, IsCommitted, checkpoints_after, conjugated_end}
use Rattle.std.specs.Prelude.{slice_get}
use Rattle.stab_session.proofs.SpacingLemmas.{IsBefore}
use Rattle.stab_session.proofs.StateLemmas.{checkpoints-long}
use Rattle.stab_session.proofs.FollowLemmas.{some-at, some-and, prepared-same, committed-same, before-first, begun, next-following, all-ascending, all-qubits}
use Rattle.stab_session.proofs.SpliceLemmas.{preserved-end, end-randomness}
use Rattle.stab_session.proofs.CountLemmas.{applied-within, few-steps, stop-ends, next-beyond, met-agrees, none-before, is-counted}

pub count-of : (step : ℕ) (seen checkpoints : List Checkpoint) (m : ℕ) → seen ≡ checkpoints → m ≤ length seen → All (λ c. c.step < step) (take m seen)
    → IfSome (slice_get seen m) (λ c. step ≤ c.step) → IsCheckpointCount step checkpoints m
count-of step seen checkpoints m is within before following = subst (λ cs. IsCheckpointCount step cs m) is (record { within = within; before = before; following = following })

same-trans : (a b c : Recording) → IsSameRecording a b → IsSameRecording b c → IsSameRecording a c
same-trans a b c f g = record {
  tableau = f.tableau ∙ g.tableau;
  output = f.output ∙ g.output;
  observables = f.observables ∙ g.observables;
  strings = f.strings ∙ g.strings;
  window = f.window ∙ g.window;
  checkpoints = f.checkpoints ∙ g.checkpoints;
}

has-checkpoint : (n : ℕ) (p : Plan) (r : Replay) (checkpoints : List Checkpoint) (o : RunOutput) (end : End) → IsEnd n p r checkpoints o end → HasCheckpoint checkpoints end
has-checkpoint n p r checkpoints o Last is = tt
has-checkpoint n p r checkpoints o (Joined j) is =
    let found = some-and (MeetsAt n p r o.records o.free) (slice_get checkpoints j) is.1 in
    slice_get_within checkpoints j found.0 found.1

-- a replay ended at checkpoints that are those that were stored
pub seen-end : (n : ℕ) (p : Plan) (r : Replay) {seen checkpoints : List Checkpoint} (o : RunOutput) (end : End) → seen ≡ checkpoints
    → IsEnd n p r seen o end → IsEnd n p r checkpoints o end
seen-end n p r o end same is = subst (λ cs. IsEnd n p r cs o end) same is

pub seen-soon : {n k : ℕ} (coins : ℕ → Bool) (p : Plan) {zs ys : List Step} {seen checkpoints : List Checkpoint} {bits records : List Bool} (end : ℕ) → k ≡ n → zs ≡ ys
    → seen ≡ checkpoints → bits ≡ records → EndsSoon k coins p zs seen bits end → EndsSoon n coins p ys checkpoints records end
seen-soon {n} {k} coins p {zs} {ys} {seen} {checkpoints} {bits} end qubits all same also is =
    subst (λ records. EndsSoon n coins p ys checkpoints records end) also
    (subst (λ cs. EndsSoon n coins p ys cs bits end) same
    (subst (λ steps. EndsSoon n coins p steps seen bits end) all
    (subst (λ m. EndsSoon m coins p zs seen bits end) qubits is)))

-- the old checkpoints that come after a replay are after the first of them that may be met
few-following : (n : ℕ) (p : Plan) (r : Replay) (old : Recording) (end : End) (new : RunOutput) (strings : PivotsState) (rest : Rest) (m : ℕ) → m ≤ p.next → m ≤ length old.checkpoints.items
    → IsEnd n p r old.checkpoints.items (output_of old.outputs) end → IsRest old r.tableau (output_of r.outputs) r.pivots.strings r.step end new strings rest
    → m + length (checkpoints_after rest old.checkpoints.items) ≤ length old.checkpoints.items
few-following n p r old Last new strings rest m next within end is = omega (arith, within, ap (λ x. length (checkpoints_after x old.checkpoints.items)) is.0)
few-following n p r old (Joined j) new strings rest m next within end is =
    let found = some-and (MeetsAt n p r old.outputs.records.items old.outputs.free.items) (slice_get old.checkpoints.items j) end.1 in
    let d = found.0 in
    let later = end.0 in
    let here = some-at (IsOldRest old (output_of r.outputs) r.pivots.strings r.step j new strings rest) old.checkpoints.items j d found.1 is in
    omega (
      arith,
      ap (λ x. length (checkpoints_after x old.checkpoints.items)) here.is,
      checkpoints-long here.old old.checkpoints.items,
      here.from,
      later,
      next,
      slice_get_within old.checkpoints.items j d found.1,
    )

-- a replay that began has done nothing yet, and holds what the recording held at the checkpoint that it began at
pub record HasBegun (n : ℕ) (coins : ℕ → Bool) (K : ℕ) (ys : List Step) (old : Recording) (m : ℕ) (r : Replay) : Type 0 where
  pub qubits : r.tableau.qubits ≡ n
  pub all : r.cursor.all ≡ ys
  pub replay : IsReplay r.tableau.qubits coins K r.step r.cursor.all r
  pub saved : r.saved.items ≡ []
  pub applied : r.applied ≡ 0
  pub by_frame : r.by_frame ≡ 0
  pub distinct : All HasDistinctQubits ys
  pub at : IfSome (slice_get old.checkpoints.items (m - 1)) (λ c. r.step ≡ c.step)
  pub strings : r.pivots.strings.qubits ≡ r.tableau.qubits
  pub window : r.pivots.window ≡ old.window
  pub checkpoints : All (λ c. c.tableau.qubits ≡ r.tableau.qubits) old.checkpoints.items

-- what was prepared can be put in place, and is the run of the new steps then
pub record IsReady (n : ℕ) (coins : ℕ → Bool) (K : ℕ) (ys : List Step) (m : ℕ) (r : Replay) (mid : Recording) (observables : ℕ) (q : Prepared) : Type 0 where
  pub following : (there : Recording) → IsSameRecording there mid → m + length (checkpoints_after q.rest there.checkpoints.items) ≤ length there.checkpoints.items
  pub preserved : (there : Recording) → IsSameRecording there mid → All (StepFits n) ys → (new : Recording) → IsCommitted there q m K new → IsRecording n coins K ys observables new
  pub randomness : (there : Recording) → IsSameRecording there mid → (new : Recording) → IsCommitted there q m K new → ones r.outputs.free.items ≤ ones new.outputs.free.items

-- how many steps a replay took that has ended, and what is prepared from it
pub record HasEnded (n : ℕ) (coins : ℕ → Bool) (K : ℕ) (ys : List Step) (s : Span) (old : Recording) (m : ℕ) (xs : List Step) (begin : ℕ) (p : Plan) (r : Replay) (end : End)
    : Type 0 where
  pub checkpoint : HasCheckpoint old.checkpoints.items end
  pub strings : r.pivots.strings.qubits ≡ old.strings.qubits
  pub applied : (applied : ℕ) → applied + begin ≡ r.step → applied ≤ (length ys - s.first) + K
  pub few : (applied : ℕ) → applied + begin ≡ r.step → EndsSoon n coins p ys old.checkpoints.items old.outputs.records.items r.step → (far : ℕ)
      → AgreeAfterSpan n coins xs ys s far → applied ≤ ((s.new_end - s.first) + 2 * K) + far
  pub counted : (applied : ℕ) → applied + begin ≡ r.step → EndsSoon n coins p ys old.checkpoints.items old.outputs.records.items r.step
      → IsCounted (AgreeAfterSpan n coins xs ys s) (AgreeBackAfterSpan n coins xs ys s) (checkpoint_steps old.checkpoints.items) s.first s.old_end s.new_end (length ys) applied
  pub ready : (mid : Recording) → IsSameRecording mid old → (observables : ℕ) (q : Prepared) → IsPrepared mid r observables end q → IsReady n coins K ys m r mid observables q

module _ {n : ℕ} {coins : ℕ → Bool} {K : ℕ} {ys : List Step} {s : Span} {old : Recording} (f : Follows n coins K ys s None old) (few : length ys ≤ 1048576)
    {m : ℕ} (count : IsCheckpointCount (s.first + 1) old.checkpoints.items m) where
  near : IsBefore K (length f.old) s.first m old.checkpoints.items
  near = before-first n coins K f.old f.count old f.preserved ys s f.span m count.within count.before count.following

  pub some-before : 1 ≤ m
  some-before = let o = near.some in omega arith

  pub checkpoint-within : IfSome (slice_get old.checkpoints.items (m - 1)) (λ c. c.step ≤ length ys)
  checkpoint-within =
      subst (λ o. IfSome o (λ c. c.step ≤ length ys)) (sym near.here)
      (let w = near.within in let o = f.span.new_order in let e = f.span.new_within in omega arith)

  pub has-begun : (r : Replay) → IfSome (slice_get old.checkpoints.items (m - 1)) (λ c. Begins ys old c r) → HasBegun n coins K ys old m r
  has-begun r begins =
      let here : Begins ys old near.checkpoint r = some-at (λ c. Begins ys old c r) old.checkpoints.items (m - 1) near.checkpoint near.here begins in
      let at_first = begun n coins K f.old f.count old f.preserved ys s f.span (m - 1) near.checkpoint r near.here near.within here in
      record {
        qubits = at_first.at_step.qubits;
        all = here.all;
        replay =
            subst (λ zs. IsReplay r.tableau.qubits coins K r.step zs r) (sym here.all)
            (subst (λ k. IsReplay k coins K r.step ys r) (sym at_first.at_step.qubits) at_first);
        saved = here.saved;
        applied = here.applied;
        by_frame = here.by_frame;
        distinct = here.distinct;
        at = IfSome_then (slice_get old.checkpoints.items (m - 1)) begins (λ c h. h.step);
        strings = at_first.at_step.has_pivots.size ∙ sym at_first.at_step.qubits;
        window = here.window;
        checkpoints = all-qubits n coins K f.old f.count old f.preserved ys s f.span r.tableau.qubits at_first.at_step.qubits;
      }

  -- and asks for no more coins than there are steps from the checkpoint on, which is a stride before the change at most
  pub asked-following : (r : Replay) → HasBegun n coins K ys old m r → (asks new : ℕ) → new ≤ asks + all_coins_of (drop r.step r.cursor.all)
      → new ≤ asks + ((length ys - s.first) + K)
  asked-following r begins asks new asked =
      let step : r.step ≡ near.checkpoint.step = some-at (λ c. r.step ≡ c.step) old.checkpoints.items (m - 1) near.checkpoint near.here begins.at in
      let from = near.near in
      omega (arith, asked, step, from, coins-steps (drop r.step r.cursor.all), length-drop r.step r.cursor.all, ap length begins.all)

  module _ {r0 : Replay} (begins : HasBegun n coins K ys old m r0) {e : ℕ} (following : IsCheckpointCount s.old_end old.checkpoints.items e) (p : Plan)
      (old_end : p.old_end ≡ s.old_end) (new_end : p.new_end ≡ s.new_end) (total : p.total ≡ length ys) (next : p.next ≡ max e m) (window : p.window ≡ old.window) where
    step_is : r0.step ≡ near.checkpoint.step
    step_is = some-at (λ c. r0.step ≡ c.step) old.checkpoints.items (m - 1) near.checkpoint near.here begins.at

    next-there : IfSome (slice_get old.checkpoints.items p.next) (λ c. s.old_end ≤ c.step)
    next-there = next-following n coins K f.old f.count old f.preserved ys s f.span e p.next (omega (arith, next)) following.following

    pub ascending-here : Ascending p r0.step (drop p.next old.checkpoints.items)
    ascending-here =
        all-ascending n coins K f.old f.count old f.preserved ys s f.span p r0.step old_end new_end total (omega (arith, few)) next-there
        (let w = near.within in omega (arith, step_is))

    -- whose steps are the new ones after what was changed
    pub old-run : IsOldRun r0.tableau.qubits coins p r0.cursor.all old.checkpoints.items (output_of old.outputs)
    old-run =
        subst (λ zs. IsOldRun r0.tableau.qubits coins p zs old.checkpoints.items (output_of old.outputs)) (sym begins.all)
        (subst (λ k. IsOldRun k coins p ys old.checkpoints.items (output_of old.outputs)) (sym begins.qubits) (record {
          steps = f.old;
          are_checkpoints = f.preserved.checkpoints;
          output = f.preserved.run.output;
          old_within = let w = f.span.old_within in omega (arith, old_end, w);
          new_within = let w = f.span.new_within in omega (arith, new_end, w);
          following = ap (λ k. drop k f.old) old_end ∙ f.span.following ∙ ap (λ k. drop k ys) (sym new_end);
        }))

    module _ (r : Replay) (end : End) (replay : IsReplay r0.tableau.qubits coins K r0.step r0.cursor.all r) (raised : r0.pivots.window ≤ r.pivots.window)
        (is_end : IsEnd r0.tableau.qubits p r old.checkpoints.items (output_of old.outputs) end) where
      done : IsReplay n coins K near.checkpoint.step ys r
      done =
          subst (λ k. IsReplay n coins K k ys r) step_is
          (subst (λ zs. IsReplay n coins K r0.step zs r) begins.all
          (subst (λ k. IsReplay k coins K r0.step r0.cursor.all r) begins.qubits replay))

      end_here : IsEnd n p r old.checkpoints.items (output_of old.outputs) end
      end_here = subst (λ k. IsEnd k p r old.checkpoints.items (output_of old.outputs) end) begins.qubits is_end

      -- the old checkpoint with a number may be met
      beyond : (k : ℕ) (c : Checkpoint) → p.next ≤ k → slice_get old.checkpoints.items k ≡ Some c → (s.first + 1 ≤ c.step) × (s.old_end ≤ c.step)
      beyond = next-beyond n coins K f.old f.count old f.preserved ys s f.span m p.next (omega (arith, next)) count.following next-there

      small : length ys < 2 ^ 64
      small = omega (arith, few)

      abbrev EndsThere : ℕ → Type 0
      EndsThere = EndsAt (AgreeBackAfterSpan n coins f.old ys s) (checkpoint_steps old.checkpoints.items) s.first s.old_end s.new_end (length ys)

      -- where it ended
      ends-there : (e : End) → IsEnd n p r old.checkpoints.items (output_of old.outputs) e → EndsThere r.step
      ends-there Last is = inl (is ∙ total)
      ends-there (Joined j) is =
          let found = some-and (MeetsAt n p r old.outputs.records.items old.outputs.free.items) (slice_get old.checkpoints.items j) is.1 in
          let d = found.0 in
          let there : conjugated_end s (length ys) (slice_get old.checkpoints.items j) ≡ r.step =
          ap (conjugated_end s (length ys)) found.1 ∙ (λ i. moved (sym old_end i) (sym new_end i) d.step) ∙ found.2.0 in
          subst EndsThere there
          (stop-ends n coins K f.old f.count old f.preserved ys s f.span j small (λ c here. beyond j c is.0 here)
          (λ c here.
          met-agrees n coins K f.old f.count old f.preserved ys s f.span p window old_end new_end small r done.at_step.run j c here (beyond j c is.0 here).1
          (subst (MeetsAt n p r old.outputs.records.items old.outputs.free.items) (same_Some d c (sym found.1 ∙ here)) found.2)))

      module _ (mid : Recording) (same : IsSameRecording mid old) (observables : ℕ) (q : Prepared) (prepared : IsPrepared mid r observables end q) where
        prepared_here : IsPrepared old r observables end q
        prepared_here = prepared-same mid old r observables end q same prepared

        placed : (there : Recording) → IsSameRecording there mid → (new : Recording) → IsCommitted there q m K new → IsCommitted old q m K new
        placed there again new committed = committed-same there old q m K new (same-trans there mid old again same) committed

        preserved-here : All (StepFits n) ys → (new : Recording) → IsCommitted old q m K new → IsRecording n coins K ys observables new
        preserved-here fits new put =
            preserved-end n coins K f.old f.count old f.preserved ys s f.span m near count.before r done (omega (arith, raised, begins.window)) fits few observables new
            (put.observables
            ∙ prepared_here.observables
            ∙ ap (λ (o : RunOutput). with_additions o.additions (replicate observables false)) (sym put.output))
            prepared_here.all (put.strings ∙ prepared_here.strings) p end q window old_end new_end total (omega (arith, few)) next-there end_here prepared_here.rest prepared_here.window prepared_here.saved put

        randomness-here : (new : Recording) → IsCommitted old q m K new → ones r.outputs.free.items ≤ ones new.outputs.free.items
        randomness-here new put =
            omega (arith, end-randomness n p r old end (output_of q.outputs) prepared_here.all q.rest end_here prepared_here.rest, ap (λ (o : RunOutput). ones o.free) put.output)

        is-ready : IsReady n coins K ys m r mid observables q
        is-ready = record {
          following = λ there again.
              subst (λ cs. m + length (checkpoints_after q.rest cs) ≤ length cs) (sym (again.checkpoints ∙ same.checkpoints))
              (few-following n p r old end (output_of q.outputs) prepared_here.all q.rest m (omega (arith, next)) count.within end_here prepared_here.rest);
          preserved = λ there again fits new committed. preserved-here fits new (placed there again new committed);
          randomness = λ there again new committed. randomness-here new (placed there again new committed);
        }

      pub has-ended : HasEnded n coins K ys s old m f.old r0.step p r end
      has-ended = record {
        strings = done.at_step.has_pivots.size ∙ sym f.preserved.has_pivots.size;
        checkpoint = has-checkpoint n p r old.checkpoints.items (output_of old.outputs) end end_here;
        applied = λ applied counted.
            applied-within n coins K f.old f.count old f.preserved ys s f.span m near r0.step r.step applied begins.at counted done.at_step.within;
        few = λ applied counted soon far agree.
            few-steps n coins K f.old f.count old f.preserved ys s f.span p old_end new_end (omega (arith, few)) m e near following.within following.before following.following next far agree r0.step
            r.step applied soon done.at_step.within begins.at counted;
        counted = λ applied counted soon.
            is-counted n coins K f.old f.count old f.preserved ys s f.span m near r0.step r.step applied begins.at counted (ends-there end end_here) count.within count.before count.following
            (none-before n coins K f.old f.count old f.preserved ys s f.span p old_end new_end (omega (arith, few)) m e count.before following.before next r.step soon);
        ready = is-ready;
      }
