-- Splits: a session whose circuit had a round split off keeps the run that it had.
use Rattle.stab_session.proofs.Names.{◌≡◌, ◌∙◌, ap, sym, subst, refl, ℕ, Bool, List, length, nat_lt, All, if◌then◌else◌, Some, None, Result, Ok, Err, OnOk, OnErr, QubitOutOfRange, LookbackTooFar, TooManySteps, Items, OneItem, listed, Step, unroll, looks_too_far, named_qubits, named_observables, qubits_of, observables_of, most_steps, check_of, check_within, HasDistinctQubits, Path, split, AreAlike, SplitsLeaveTheSteps, entries-listed, Recording, SessionState, IsSplit, IsRecording, session_of, IsRecorded, Repeat, AreRepeats}
use Rattle.stab_session.proofs.SessionLemmas.{session-recorded}

-- what refuses items on n qubits refuses those that are like them
alike-checked : (n : ℕ) (old new : Items) → AreAlike old new → check_within n new ≡ check_within n old
unfolding check_of
alike-checked n old new a =
    ap (λ q. if nat_lt n q then Some QubitOutOfRange else check_of new) (a.named named_qubits)
    ∙ ap (λ (xs : List Step). if nat_lt n (qubits_of old) then Some QubitOutOfRange else if looks_too_far 0 xs then Some LookbackTooFar else if nat_lt most_steps (length xs) then Some TooManySteps else None) a.steps

-- and where its steps come again is as before
pub still-repeats : {A E : Type 0} (result : Result A E) (path : Path) (round : ℕ) (old new : List OneItem) (rs : List Repeat)
    → SplitsLeaveTheSteps → OnOk result (split path round old ≡ Ok new) → OnErr result (new ≡ old) → AreRepeats 0 (unroll (listed old)) rs → AreRepeats 0 (unroll (listed new)) rs
still-repeats (Ok x) path round old new rs law ok err are = subst (λ xs. AreRepeats 0 xs rs) (sym (law path round old new ok).steps) are
still-repeats (Err e) path round old new rs law ok err are = subst (λ xs. AreRepeats 0 (unroll (listed xs)) rs) (sym err) are

module _ {C : Type 0} (sequence : C → ℕ → Bool) (stride : ℕ) (coins : C) (recording : Recording) where
  -- items that are like those of a recording have that run
  alike-recorded : (old new : Items) → AreAlike old new → IsRecorded sequence (session_of old stride coins recording) recording → IsRecorded sequence (session_of new stride coins recording) recording
  alike-recorded old new a is =
      let n = recording.tableau.qubits in
      let bits = sequence coins in
      let run : IsRecording n bits stride (unroll new) (observables_of new) recording =
      subst (λ xs. IsRecording n bits stride xs (observables_of new) recording) (sym a.steps)
      (subst (λ count. IsRecording n bits stride (unroll old) count recording) (sym (a.named named_observables)) is.run) in
      session-recorded sequence new stride coins recording n bits refl run (alike-checked n old new a ∙ is.checked) (subst (All HasDistinctQubits) (sym a.steps) is.distinct) is.few is.stride_above is.stride_within

  -- however the call ended, the session keeps the run of its items
  pub still-recorded : {A E : Type 0} (result : Result A E) (path : Path) (round : ℕ) (old new : List OneItem)
      → SplitsLeaveTheSteps → OnOk result (split path round old ≡ Ok new) → OnErr result (new ≡ old)
      → IsRecorded sequence (session_of (listed old) stride coins recording) recording → IsRecorded sequence (session_of (listed new) stride coins recording) recording
  still-recorded (Ok x) path round old new law ok err is = alike-recorded (listed old) (listed new) (law path round old new ok) is
  still-recorded (Err e) path round old new law ok err is = subst (λ xs. IsRecorded sequence (session_of (listed xs) stride coins recording) recording) (sym err) is

  pub session-split : (path : Path) (round : ℕ) (old new : List OneItem) (s : SessionState C) → session_of (listed old) stride coins recording ≡ s → split path round old ≡ Ok new
      → IsSplit path round s (session_of (listed new) stride coins recording)
  session-split path round old new s is e = subst (λ t. IsSplit path round t (session_of (listed new) stride coins recording)) is (record {
    items = ap (split path round) (entries-listed old) ∙ e ∙ ap Ok (sym (entries-listed new));
    rest = refl;
  })
