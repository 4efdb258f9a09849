-- Sessions: the statement of a session, from the run of its items that is recording.
use Rattle.stab_session.proofs.Names.{◌≡◌, ◌∙◌, ◌≤◌, ap, ℕ, sym, subst, Bool, false, Option, All, None, arith, length, replicate, Signed, with_sign, member, SameGroup, stabilises, same-random, Items, unroll, observables_of, check_within, HasDistinctQubits, Recording, State, start, run_of, RunOutput, origin, point_after, outputs, with_additions, state_at, DependsOnCoinsAt, IsRunOfItems, IsSignIn, most_checkpoints, checkpoint_steps, IsRecording, session_of, IsRecorded, run-state, run_of-same, records-are-records}
use Rattle.stab_session.proofs.SpacingLemmas.{count-spaced}

-- in the same group a string has the same sign
pub same-sign : (n : ℕ) (u v : Signed → Bool) (p : Signed) (sign : Option Bool) → length p.letters ≡ n → SameGroup n u v → IsSignIn u p sign → IsSignIn v p sign
same-sign n u v p sign size same h = (
  (λ b. ((λ e. sym (same (with_sign b p) size) ∙ (h.0 b).0 e), (λ e. (h.0 b).1 (same (with_sign b p) size ∙ e)))),
  ((λ e. sym (same-random n u v p size same) ∙ h.1.0 e), (λ e. h.1.1 (same-random n u v p size same ∙ e))),
)

-- the state after the run of items
after_all : (n : ℕ) (bits : ℕ → Bool) (items : Items)
    → run_of n bits items ≡ state_at (point_after n bits (unroll items) origin) (outputs n bits (unroll items) origin) (start (observables_of items))
unfolding run_of
after_all n bits items = run-state n bits (unroll items) (start (observables_of items))

module _ {C : Type 0} (sequence : C → ℕ → Bool) (items : Items) (stride : ℕ) (coins : C) (recording : Recording) where
  same_statement : IsRecording recording.tableau.qubits (sequence coins) stride (unroll items) (observables_of items) recording → IsRunOfItems sequence (session_of items stride coins recording)
  same_statement is =
      let n = recording.tableau.qubits in
      let bits = sequence coins in
      let all = after_all n bits items in
      let count = observables_of items in
      let free : recording.outputs.free.items ≡ (run_of n bits items).free = ap (λ (o : RunOutput). o.free) is.run.output ∙ sym (ap (λ (s : State). s.free) all) in
      record {
        records = ap (λ (o : RunOutput). o.records) is.run.output ∙ records-are-records n bits (unroll items) ∙ sym (ap (λ (s : State). s.records) all);
        free = free;
        detectors = ap (λ (o : RunOutput). o.detectors) is.run.output ∙ sym (ap (λ (s : State). s.detectors) all);
        observables =
            is.observables
            ∙ ap (λ (o : RunOutput). with_additions o.additions (replicate count false)) is.run.output
            ∙ sym (ap (λ (s : State). s.observables) all);
        decided = subst (λ randomness. DependsOnCoinsAt randomness n bits items) (sym free) (run_of-same n bits items);
      }

  -- the strings that stabilise its state are those of the run's group
  pub recording-group : IsRecording recording.tableau.qubits (sequence coins) stride (unroll items) (observables_of items) recording
      → SameGroup recording.tableau.qubits (stabilises recording.tableau) (member (run_of recording.tableau.qubits (sequence coins) items).trace)
  recording-group is =
      let n = recording.tableau.qubits in
      subst (λ (s : State). SameGroup n (stabilises recording.tableau) (member s.trace)) (sym (after_all n (sequence coins) items)) is.run.group

  -- it is recording, if the run of its items is recording with its coins on its qubits
  module _ (n : ℕ) (bits : ℕ → Bool) (same : sequence coins ≡ bits) (is : IsRecording n bits stride (unroll items) (observables_of items) recording) where
    moved_run : IsRecording recording.tableau.qubits (sequence coins) stride (unroll items) (observables_of items) recording
    moved_run =
        subst (λ b. IsRecording recording.tableau.qubits b stride (unroll items) (observables_of items) recording) (sym same)
        (subst (λ m. IsRecording m bits stride (unroll items) (observables_of items) recording) (sym is.qubits) is)

    pub statement : IsRunOfItems sequence (session_of items stride coins recording)
    statement = same_statement moved_run

    pub session-recorded : check_within n items ≡ None → All HasDistinctQubits (unroll items) → n ≤ 1024 → 1 ≤ stride → stride ≤ 65536
        → IsRecorded sequence (session_of items stride coins recording) recording
    session-recorded checked distinct few above within = record {
      statement = statement;
      run = moved_run;
      checked = subst (λ m. check_within m items ≡ None) (sym is.qubits) checked;
      distinct = distinct;
      few = subst (λ m. m ≤ 1024) (sym is.qubits) few;
      stride_above = above;
      stride_within = within;
    }

    pub few-checkpoints : 1 ≤ stride → length (session_of items stride coins recording).checkpoints ≤ most_checkpoints (session_of items stride coins recording)
    few-checkpoints above = count-spaced stride (length (unroll items)) (checkpoint_steps recording.checkpoints.items) (omega (arith, above)) is.spaced
