-- Splices: a replay with the rest of an old run after it is the run of the new steps, if it meets that run there.
use Rattle.stab_session.proofs.Names.{◌≡◌, ℕ, ◌+◌, ◌-◌, ◌^◌, ◌<◌, ◌≤◌, reverse, append_assoc, refl, sym, ◌∙◌, ap, subst, Bool, false, List, [], ◌∷◌, ◌++◌, length, take, drop, map, get_or, All, Some, replicate, arith, IfSome, take_all, drop-map, drop_more, map-append, All-map, All-append, All-drop, get_or_from_slice_get, slice_get_within, slice_get-map, I, member, SameGroup, TableauState, stabilises, IsConjugated, Step, Span, Lengths, ones-append, ones, RunOutput, origin, joined, point_after, outputs, with_additions, StepFits, program_state, output_of, lengths_of, rest_of, AgreeBack, with_coin, randomness-is-coins, MayHaveCoin, PivotsState, cut_to, most_strings, LooksWithin, conjugated-blank, Checkpoint, IsRunFromStart, IsCheckpoint, checkpoint_steps, all_saved, moved, moved_checkpoint, Meets, Near, IsSpaced, Replay, Plan, End, Last, Joined, KeepsPivotList, IsSpliced, with_states, HaveSameFuture, IsReplay, IsEnd, MeetsAt, Recording, Prepared, Rest, IsRecording, IsSpan, IsRest, IsOldRest, IsCommitted, IsTableauAfter, checkpoints_after, meeting_of, drop-drop}
use Rattle.std.specs.Prelude.{option_map, slice_get}
use Rattle.stab_recording.proofs.RecordedReplayLemmas.{near-enough, has_pivots-spliced, has_pivots-cut, cut-few}
use Rattle.stab_session.proofs.PropagatedPointLemmas.{future-moved, future-conjugated}
use Rattle.stab_recording.proofs.PointLemmas.{meets-agree, group-end, preserved-tail, checkpoint-moved}
use Rattle.stab_session.proofs.SpacingLemmas.{IsBefore, all-following, spaced-all, all-saved-all, all-saved-append, moved-near, moved-within, steps-moved, near-drop, near-join}
use Rattle.stab_session.proofs.FollowLemmas.{at-get, some-at, some-and, from-drop, same-rest, all-next, front-checkpoints, front-spaced}

module _ (n : ℕ) (coins : ℕ → Bool) (K : ℕ) (xs : List Step) (count : ℕ) (old : Recording) (preserved : IsRecording n coins K xs count old)
    (ys : List Step) (s : Span) (span : IsSpan xs ys s) where
  rest-long : length ys ≡ s.new_end + (length xs - s.old_end)
  rest-long = same-rest n coins K xs count old preserved ys s span

  module _ (m : ℕ) (b : IsBefore K (length xs) s.first m old.checkpoints.items) (front : All (λ c. c.step < s.first + 1) (take m old.checkpoints.items))
      (r : Replay) (replay : IsReplay n coins K b.checkpoint.step ys r) (raised : old.window ≤ r.pivots.window) (fits : All (StepFits n) ys) (small : length ys ≤ 1048576) (total : ℕ) (new : Recording)
      (observables : new.observables.items ≡ with_additions new.outputs.additions.items (replicate total false))
      (all : PivotsState) (few_stored : new.strings ≡ cut_to (most_strings all.qubits) all) where
    -- after the last step
    preserved-last : r.step ≡ length ys → new.tableau ≡ r.tableau → output_of new.outputs ≡ output_of r.outputs → all ≡ r.pivots.strings → new.window ≡ r.pivots.window
        → new.checkpoints.items ≡ all_saved K r.saved.items (take m old.checkpoints.items) → IsRecording n coins K ys total new
    preserved-last end tableau output strings window checkpoints = record {
      qubits = ap (λ (t : TableauState). t.qubits) tableau ∙ replay.at_step.qubits;
      run = record {
        group = subst (λ t. SameGroup n (stabilises t) (member (point_after n coins ys origin).trace)) (sym tableau) whole.group;
        output = output ∙ whole.output;
      };
      observables = observables;
      fits = fits;
      few = small;
      has_pivots =
          has_pivots-cut n coins ys all new.strings new.outputs.free.items new.window
          (subst (λ x. x) (λ i. KeepsPivotList n coins (take_all r.step ys (omega (arith, end)) i) (sym strings i) (sym output i).free (sym window i)) replay.at_step.has_pivots)
          (ap (λ (o : RunOutput). o.free) (output ∙ whole.output)) few_stored;
      few_strings = cut-few n all new.strings (ap (λ (s : PivotsState). s.qubits) strings ∙ replay.at_step.has_pivots.size) few_stored;
      checkpoints =
          subst (All (IsCheckpoint n coins ys)) (sym checkpoints)
          (all-saved-all (IsCheckpoint n coins ys) K r.saved.items (take m old.checkpoints.items) replay.checkpoints (front-checkpoints n coins K xs count old preserved ys s span m front));
      spaced =
          subst (λ cs. IsSpaced K (length ys) (checkpoint_steps cs)) (sym checkpoints)
          (spaced-all K (length ys) b.checkpoint.step r.saved.items (take m old.checkpoints.items)
          (subst (λ k. Near K (b.checkpoint.step ∷ checkpoint_steps r.saved.items ++ k ∷ [])) end replay.near)
          (front-spaced n coins K xs count old preserved ys s span m b).0 (front-spaced n coins K xs count old preserved ys s span m b).1);
    }
      where
        whole : IsRunFromStart n coins ys (program_state r.tableau (output_of r.outputs))
        whole =
            subst (λ zs. IsRunFromStart n coins zs (program_state r.tableau (output_of r.outputs))) (take_all r.step ys (omega (arith, end)))
            replay.at_step.run

    -- at an old checkpoint that it meets
    module _ (j : ℕ) (d : Checkpoint) (here : slice_get old.checkpoints.items j ≡ Some d) (following : s.old_end ≤ d.step) (site : moved s.old_end s.new_end d.step ≡ r.step)
        (few : length ys < 2 ^ 64) (window : ℕ) (window_is : window ≡ old.window) (meets : Meets n window r.tableau (output_of r.outputs) old.outputs.records.items old.outputs.free.items d) where
      is : IsCheckpoint n coins xs d
      is = at-get (IsCheckpoint n coins xs) old.checkpoints.items j d preserved.checkpoints here

      step : r.step ≡ s.new_end + (d.step - s.old_end)
      step = sym site ∙ moved-within s.old_end s.new_end d.step (length xs) is.within (omega (arith, rest-long, few))

      same : drop d.step xs ≡ drop r.step ys
      same =
          ap (λ k. drop k xs) (omega (arith, following))
          ∙ sym (drop-drop (d.step - s.old_end) s.old_end xs)
          ∙ ap (drop (d.step - s.old_end)) span.following
          ∙ drop-drop (d.step - s.old_end) s.new_end ys
          ∙ ap (λ k. drop k ys) (sym step)

      -- what follows is the same in both
      agree : MayHaveCoin n coins (drop d.step xs) (point_after n coins (take d.step xs) origin) (point_after n coins (take r.step ys) origin).coin
          × AgreeBack n window (with_coin (point_after n coins (take r.step ys) origin).coin (point_after n coins (take d.step xs) origin)) (point_after n coins (take r.step ys) origin)
      agree =
          meets-agree n window coins xs (take r.step ys) d r.tableau (output_of r.outputs) old.outputs.records.items old.outputs.free.items is
          (ap (λ (o : RunOutput). o.records) preserved.run.output) (ap (λ (o : RunOutput). o.free) preserved.run.output) replay.at_step.run meets

      future : HaveSameFuture n coins (drop d.step xs) (point_after n coins (take d.step xs) origin) (point_after n coins (take r.step ys) origin)
      future =
          future-moved n window coins (drop d.step xs) (point_after n coins (take d.step xs) origin) (point_after n coins (take r.step ys) origin)
          (near-enough old.window window (drop d.step xs) (omega (arith, window_is)) (All-drop (LooksWithin old.window) d.step xs preserved.has_pivots.near)) agree.0 agree.1

      each_moved : All (λ c. IsCheckpoint n coins ys (moved_checkpoint (meeting_of (output_of r.outputs) r.step d) c)) (drop j old.checkpoints.items)
      each_moved = λ k e lt.
          checkpoint-moved n coins xs ys d.step r.step same future (meeting_of (output_of r.outputs) r.step d) (get_or (drop j old.checkpoints.items) k e) refl refl is.lengths
          (ap lengths_of replay.at_step.run.output)
          (all-following K (length xs) d.step j old.checkpoints.items preserved.spaced.near
          (subst (λ o. IfSome o (λ c. d.step ≤ c.step)) (sym here) (omega arith)) k e lt).0
          replay.at_step.within few (All-drop (IsCheckpoint n coins xs) j old.checkpoints.items preserved.checkpoints k e lt)

      abbrev after_meeting : List Checkpoint
      after_meeting = map (moved_checkpoint (meeting_of (output_of r.outputs) r.step d)) (drop j old.checkpoints.items)

      preserved-rest : new.tableau.qubits ≡ old.tableau.qubits → IsConjugated old.tableau.qubits (replicate old.tableau.qubits I) (stabilises old.tableau) (stabilises new.tableau)
          → output_of new.outputs ≡ joined (output_of r.outputs) (rest_of d.lengths (output_of old.outputs))
          → IsSpliced r.pivots.strings old.strings (ones (take d.lengths.free old.outputs.free.items)) (ones new.outputs.free.items) all
          → new.window ≡ r.pivots.window
          → new.checkpoints.items
          ≡ all_saved K (map (moved_checkpoint (meeting_of (output_of r.outputs) r.step d)) (drop j old.checkpoints.items)) (all_saved K r.saved.items (take m old.checkpoints.items))
          → IsRecording n coins K ys total new
      preserved-rest qubits conjugates output strings new_window checkpoints = record {
        qubits = qubits ∙ preserved.qubits;
        run = record {
          group = λ p size.
              conjugated-here p size
              ∙ sym (conjugated-blank n (stabilises old.tableau) p size)
              ∙ preserved.run.group p size
              ∙ group-end n coins xs ys d.step r.step same future p size;
          output = output_is;
        };
        observables = observables;
        fits = fits;
        few = small;
        has_pivots =
            has_pivots-cut n coins ys all new.strings new.outputs.free.items new.window
            (subst (KeepsPivotList n coins ys all new.outputs.free.items) (sym new_window)
            (has_pivots-spliced n coins xs ys d.step r.step same agree.0
            (future-conjugated n coins (drop d.step xs) (point_after n coins (take d.step xs) origin) (point_after n coins (take r.step ys) origin) future)
            old.strings r.pivots.strings all old.outputs.free.items r.outputs.free.items new.outputs.free.items d.lengths.free old.window r.pivots.window
            preserved.has_pivots (ap (λ (o : RunOutput). o.free) preserved.run.output) replay.at_step.has_pivots (ap (λ (o : RunOutput). o.free) replay.at_step.run.output) raised
            (ap (λ (l : Lengths). l.free) is.lengths ∙ randomness-is-coins n coins (take d.step xs))
            (ap (λ (o : RunOutput). o.free) output)
            strings))
            (ap (λ (o : RunOutput). o.free) output_is) few_stored;
        few_strings = cut-few n all new.strings (strings.size ∙ replay.at_step.has_pivots.size) few_stored;
        checkpoints =
            subst (All (IsCheckpoint n coins ys)) (sym all_checkpoints)
            (all-saved-all (IsCheckpoint n coins ys) K (r.saved.items ++ after_meeting) (take m old.checkpoints.items)
            (All-append (IsCheckpoint n coins ys) r.saved.items after_meeting replay.checkpoints
            (All-map (IsCheckpoint n coins ys) (moved_checkpoint (meeting_of (output_of r.outputs) r.step d)) (drop j old.checkpoints.items) each_moved))
            (front-checkpoints n coins K xs count old preserved ys s span m front));
        spaced =
            subst (λ cs. IsSpaced K (length ys) (checkpoint_steps cs)) (sym all_checkpoints)
            (spaced-all K (length ys) b.checkpoint.step (r.saved.items ++ after_meeting) (take m old.checkpoints.items) (subst (Near K) steps_are near)
            (front-spaced n coins K xs count old preserved ys s span m b).0 (front-spaced n coins K xs count old preserved ys s span m b).1);
      }
        where
          output_is : output_of new.outputs ≡ outputs n coins ys origin
          output_is =
              output
              ∙ (λ i. joined (replay.at_step.run.output i) (rest_of (is.lengths i) (preserved.run.output i)))
              ∙ sym (preserved-tail n coins xs ys d.step r.step same future)

          conjugated-here : IsConjugated n (replicate n I) (stabilises old.tableau) (stabilises new.tableau)
          conjugated-here = subst (λ q. IsConjugated q (replicate q I) (stabilises old.tableau) (stabilises new.tableau)) preserved.qubits conjugates

          all_checkpoints : new.checkpoints.items
              ≡ all_saved K (r.saved.items ++ map (moved_checkpoint (meeting_of (output_of r.outputs) r.step d)) (drop j old.checkpoints.items)) (take m old.checkpoints.items)
          all_checkpoints =
              checkpoints
              ∙ sym (all-saved-append K r.saved.items (map (moved_checkpoint (meeting_of (output_of r.outputs) r.step d)) (drop j old.checkpoints.items)) (take m old.checkpoints.items))

          near : Near K ((b.checkpoint.step ∷ checkpoint_steps r.saved.items) ++ r.step ∷ (map (moved d.step r.step) (checkpoint_steps (drop (j + 1) old.checkpoints.items)) ++ length ys ∷ []))
          near =
              near-join K r.step (b.checkpoint.step ∷ checkpoint_steps r.saved.items) (map (moved d.step r.step) (checkpoint_steps (drop (j + 1) old.checkpoints.items)) ++ length ys ∷ [])
              replay.near
              (subst (λ k. Near K (r.step ∷ map (moved d.step r.step) (checkpoint_steps (drop (j + 1) old.checkpoints.items)) ++ k ∷ []))
              (let w = is.within in omega (arith, step, rest-long, following))
              (moved-near K d.step r.step (length xs) (checkpoint_steps (drop (j + 1) old.checkpoints.items))
              (subst (λ steps. Near K (d.step ∷ steps ++ length xs ∷ [])) (drop-map (λ c. c.step) (j + 1) old.checkpoints.items)
              (near-drop K (length xs) j d.step (checkpoint_steps old.checkpoints.items) preserved.spaced.near
              (slice_get-map (λ c. c.step) old.checkpoints.items j ∙ ap (option_map (λ c. c.step)) here)))
              (let w = is.within in omega (arith, step, rest-long, following, few))))

          moved_steps : checkpoint_steps (map (moved_checkpoint (meeting_of (output_of r.outputs) r.step d)) (drop j old.checkpoints.items))
              ≡ r.step ∷ map (moved d.step r.step) (checkpoint_steps (drop (j + 1) old.checkpoints.items))
          moved_steps =
              steps-moved (meeting_of (output_of r.outputs) r.step d) (drop j old.checkpoints.items)
              ∙ ap (map (moved d.step r.step))
              (ap checkpoint_steps
              (drop_more old.checkpoints.items j d (slice_get_within old.checkpoints.items j d here)
              ∙ ap (λ c. c ∷ drop (j + 1) old.checkpoints.items) (get_or_from_slice_get old.checkpoints.items j d d here)))
              ∙ ap (λ k. k ∷ map (moved d.step r.step) (checkpoint_steps (drop (j + 1) old.checkpoints.items)))
              (let w = replay.at_step.within in omega (arith, w, few))

          steps_are : (b.checkpoint.step ∷ checkpoint_steps r.saved.items) ++ r.step ∷ (map (moved d.step r.step) (checkpoint_steps (drop (j + 1) old.checkpoints.items)) ++ length ys ∷ [])
              ≡ b.checkpoint.step ∷ checkpoint_steps (r.saved.items ++ map (moved_checkpoint (meeting_of (output_of r.outputs) r.step d)) (drop j old.checkpoints.items)) ++ length ys ∷ []
          steps_are =
              ap (λ steps. b.checkpoint.step ∷ checkpoint_steps r.saved.items ++ (steps ++ length ys ∷ [])) (sym moved_steps)
              ∙ ap (λ steps. b.checkpoint.step ∷ steps)
              (sym (append_assoc (checkpoint_steps r.saved.items)
              (checkpoint_steps (map (moved_checkpoint (meeting_of (output_of r.outputs) r.step d)) (drop j old.checkpoints.items))) (length ys ∷ []))
              ∙ ap (λ steps. steps ++ length ys ∷ [])
              (sym (map-append (λ c. c.step) r.saved.items (map (moved_checkpoint (meeting_of (output_of r.outputs) r.step d)) (drop j old.checkpoints.items)))))

    -- however it ends
    pub preserved-end : (p : Plan) (end : End) (q : Prepared) → p.window ≡ old.window → p.old_end ≡ s.old_end → p.new_end ≡ s.new_end → p.total ≡ length ys → length ys < 2 ^ 64
        → IfSome (slice_get old.checkpoints.items p.next) (λ c. s.old_end ≤ c.step)
        → IsEnd n p r old.checkpoints.items (output_of old.outputs) end
        → IsRest old r.tableau (output_of r.outputs) r.pivots.strings r.step end (output_of q.outputs) all q.rest → q.window ≡ r.pivots.window
        → reverse q.saved.items ≡ r.saved.items → IsCommitted old q m K new → IsRecording n coins K ys total new
    preserved-end p Last q window_is old_end new_end total_is few next end rest window saved committed =
        preserved-last (end ∙ total_is) (subst (λ x. IsTableauAfter x old.tableau new.tableau) rest.0 committed.tableau) (committed.output ∙ rest.1) rest.2 (committed.window ∙ window)
        (committed.checkpoints
        ∙ (λ i. all_saved K (checkpoints_after (rest.0 i) old.checkpoints.items) (all_saved K (saved i) (take m old.checkpoints.items))))
    preserved-end p (Joined j) q window_is old_end new_end total_is few next end rest window saved committed =
        let found = some-and (MeetsAt n p r old.outputs.records.items old.outputs.free.items) (slice_get old.checkpoints.items j) end.1 in
        let d = found.0 in
        let is = some-at (IsOldRest old (output_of r.outputs) r.pivots.strings r.step j (output_of q.outputs) all q.rest) old.checkpoints.items j d found.1 rest in
        let after = some-at (λ c. s.old_end ≤ c.step) old.checkpoints.items j d found.1
        (from-drop (λ c. s.old_end ≤ c.step) old.checkpoints.items p.next j end.0 (all-next n coins K xs count old preserved ys s span p.next next)) in
        let site : moved s.old_end s.new_end d.step ≡ r.step = (λ i. moved (sym old_end i) (sym new_end i) d.step) ∙ found.2.0 in
        let state = subst (λ x. IsTableauAfter x old.tableau new.tableau) is.is committed.tableau in
        preserved-rest j d found.1 after site few p.window window_is found.2.1 state.0
        (subst (λ l. IsConjugated old.tableau.qubits l (stabilises old.tableau) (stabilises new.tableau)) is.letters state.1)
        (committed.output ∙ is.output)
        (subst (λ x. x) (λ i. IsSpliced r.pivots.strings old.strings (ones (take d.lengths.free old.outputs.free.items)) (ones (sym committed.output i).free) all)
        is.strings)
        (committed.window ∙ window)
        (committed.checkpoints
        ∙ (λ i. all_saved K (checkpoints_after (is.is i) old.checkpoints.items) (all_saved K (saved i) (take m old.checkpoints.items)))
        ∙ (λ i. all_saved K (map (moved_checkpoint (is.meeting i)) (with_states (is.states i) (drop (is.from i) old.checkpoints.items))) (all_saved K r.saved.items (take m old.checkpoints.items))))

-- randomness

pub end-randomness : (n : ℕ) (p : Plan) (r : Replay) (old : Recording) (end : End) (new : RunOutput) (strings : PivotsState) (rest : Rest)
    → IsEnd n p r old.checkpoints.items (output_of old.outputs) end → IsRest old r.tableau (output_of r.outputs) r.pivots.strings r.step end new strings rest
    → ones r.outputs.free.items ≤ ones new.free
end-randomness n p r old Last new strings rest end is = omega (arith, ap (λ (o : RunOutput). ones o.free) is.1)
end-randomness n p r old (Joined j) new strings rest end is =
    let found = some-and (MeetsAt n p r old.outputs.records.items old.outputs.free.items) (slice_get old.checkpoints.items j) end.1 in
    let d = found.0 in
    let old_rest = some-at (IsOldRest old (output_of r.outputs) r.pivots.strings r.step j new strings rest) old.checkpoints.items j d found.1 is in
    omega (arith, ap (λ (o : RunOutput). ones o.free) old_rest.output, ones-append r.outputs.free.items (drop d.lengths.free old.outputs.free.items))
