-- Edited sessions: from an edit that was begun and run to the statement of the session, and to what the edit cost.
use Rattle.stab_session.proofs.Names.{◌≡◌, ◌≤◌, ℕ, ◌+◌, ◌-◌, ◌*◌, sym, ◌∙◌, ap, subst, arith, Bool, List, [], ◌∷◌, length, take, drop, All, None, Result, Ok, slice_get, Refusal, OutOfMemory, Fault, whole, IsCallFault, OneItem, listed, entries, Step, unroll, observables_of, check_within, HasDistinctQubits, edit_path, edited, verdict, put_item, first_changed, old_end, new_end, entries-listed, Recording, Span, Edit, Pending, run, start, origin, point_after, point_of, AgreeAt, SessionState, IsEditedBy, steps_of_item, steps_from_change, steps_after, unless_refused, most_refused_asks, steps_put, steps_near_change, most_tried, check-steps, check-whole, IsCountOf, AgreeAfter, AgreeBackAfter, IsCounted, AgreeAsFarAsLooked, session_of, IsRecorded, finished_items, IsBegun, IsRecording, AgreeAfterSpan, AgreeBackAfterSpan, run-state, Repeat, AreRepeats}
use Rattle.stab_session.proofs.SessionLemmas.{session-recorded}
use Rattle.stab_session.proofs.PendingLemmas.{verdict-checked}
use Rattle.stab_session.proofs.SpanLemmas.{put-within}

pub ok_same : (xs ys : List OneItem) → ◌≡◌ {A = Result (List OneItem) Refusal} (Ok xs) (Ok ys) → xs ≡ ys
ok_same xs ys e = cc

-- the verdict that a session sees is that on its circuit
pub session-verdict : {C : Type 0} (s : SessionState C) (e : Edit) (n : ℕ) (items : List OneItem) → s.items ≡ listed items → s.qubits ≡ n
    → verdict n e items ≡ verdict s.qubits e (entries s.items)
session-verdict s e n items is qubits = λ i. verdict (sym qubits i) e (same i)
  where
    same : items ≡ entries s.items
    same = sym (ap entries is ∙ entries-listed items)

-- the run of steps ends at the point where they end
run-point : (n count : ℕ) (bits : ℕ → Bool) (xs : List Step) → point_of (run n bits xs (start count)) ≡ point_after n bits xs origin
run-point n count bits xs = ap point_of (run-state n bits xs (start count))

-- points after this many steps agree, whichever way these are said
same_agree : (n m k : ℕ) (bits others : ℕ → Bool) (xs us ys vs : List Step) (i a j c : ℕ) → m ≡ n → k ≡ n → others ≡ bits → us ≡ xs → vs ≡ ys → a ≡ i → c ≡ j
    → AgreeAt k (point_after m bits (take a us) origin) (point_after k others (take c vs) origin) ≡ AgreeAt n (point_after n bits (take i xs) origin) (point_after n bits (take j ys) origin)
same_agree n m k bits others xs us ys vs i a j c em ek eb ex ey ei ej =
    λ p. AgreeAt (ek p) (point_after (em p) bits (take (ei p) (ex p)) origin) (point_after (ek p) (eb p) (take (ej p) (ey p)) origin)

same_agree_back : (n m k : ℕ) (bits others : ℕ → Bool) (xs us ys vs : List Step) (i a j c : ℕ) → m ≡ n → k ≡ n → others ≡ bits → us ≡ xs → vs ≡ ys → a ≡ i → c ≡ j
    → AgreeAsFarAsLooked k bits (drop c vs) (point_after m bits (take a us) origin) (point_after k others (take c vs) origin)
    ≡ AgreeAsFarAsLooked n bits (drop j ys) (point_after n bits (take i xs) origin) (point_after n bits (take j ys) origin)
same_agree_back n m k bits others xs us ys vs i a j c em ek eb ex ey ei ej =
    λ p. AgreeAsFarAsLooked (ek p) bits (drop (ej p) (ey p)) (point_after (em p) bits (take (ei p) (ex p)) origin) (point_after (ek p) (eb p) (take (ej p) (ey p)) origin)

-- a recording, and an agreement, on the same number of qubits with the same coins

pub followed : (n m : ℕ) (bits others : ℕ → Bool) (K : ℕ) (xs : List Step) (count : ℕ) (r : Recording) → n ≡ m → bits ≡ others → IsRecording m bits K xs count r → IsRecording n others K xs count r
followed n m bits others K xs count r e f is = subst (λ k. IsRecording k others K xs count r) (sym e) (subst (λ k. IsRecording m k K xs count r) f is)

pub agreed : (n m : ℕ) (bits others : ℕ → Bool) (xs ys : List Step) (s : Span) (far : ℕ) → n ≡ m → bits ≡ others → AgreeAfterSpan n others xs ys s far → AgreeAfterSpan m bits xs ys s far
agreed n m bits others xs ys s far e f is = subst (λ k. AgreeAfterSpan k bits xs ys s far) e (subst (λ k. AgreeAfterSpan n k xs ys s far) (sym f) is)

pub counted_same : (n m : ℕ) (bits others : ℕ → Bool) (xs ys : List Step) (s : Span) (checkpoints : List ℕ) (total applied : ℕ) → n ≡ m → bits ≡ others
    → IsCounted (AgreeAfterSpan m bits xs ys s) (AgreeBackAfterSpan m bits xs ys s) checkpoints s.first s.old_end s.new_end total applied
    → IsCounted (AgreeAfterSpan n others xs ys s) (AgreeBackAfterSpan n others xs ys s) checkpoints s.first s.old_end s.new_end total applied
counted_same n m bits others xs ys s checkpoints total applied e f h =
    subst (λ t. t) (λ i. IsCounted (AgreeAfterSpan (sym e i) (f i) xs ys s) (AgreeBackAfterSpan (sym e i) (f i) xs ys s) checkpoints s.first s.old_end s.new_end total applied) h

-- how many steps an edit puts in, by the items that it leaves
abbrev steps_put_in : Edit → List OneItem → ℕ
steps_put_in e new = steps_of_item (elim (edit_path e).blocks [ [] ↦ put_item e | b ∷ bs ↦ slice_get new b ])

-- an edit of a session that was begun and finished, and makes other steps than those of its run
module _ {C : Type 0} (sequence : C → ℕ → Bool) (e : Edit) (s : SessionState C) (n : ℕ) (old mid : List OneItem) (pending : Pending) (span : Span)
    (b : IsBegun n e old mid pending span) (items : s.items ≡ listed old) (qubits : s.qubits ≡ n) where
  accepted : verdict s.qubits e (entries s.items) ≡ None
  accepted = sym (session-verdict s e n old items qubits) ∙ b.accepted

  -- it is refused memory alone, which is a fault of the edit
  pub run-fault : (f : Fault) → f ≡ whole OutOfMemory → IsCallFault (verdict s.qubits e (entries s.items)) f
  run-fault f h = subst (λ v. IsCallFault v f) (sym accepted) h

  pub few-steps : length (unroll (listed mid)) ≤ 1048576
  few-steps = check-steps (listed mid) (check-whole n (listed mid) b.checked)

  old_items : entries s.items ≡ old
  old_items = ap entries items ∙ entries-listed old

  -- and asked for no more coins before that than there are steps after the changed place, and a stride of them
  pub refused-asks : (K before after : ℕ) → K ≡ s.stride → after ≤ before + ((length (unroll (listed mid)) - span.first) + K) → after ≤ before + most_refused_asks e s
  refused-asks K before after stride asked =
      let most : most_refused_asks e s ≡ (length (unroll (listed b.new)) - first_changed e old) + s.stride =
      (λ i. unless_refused (accepted i) (steps_after (first_changed e (old_items i)) s.stride (edited e (old_items i))))
      ∙ ap (steps_after (first_changed e old) s.stride) b.edited in
      omega (arith, asked, most, stride, b.span.first, ap length b.same_runs.steps)

  module _ (new : List OneItem) (ahead : finished_items pending mid ≡ Ok new) (stride : ℕ) (coins : C) (run : Recording) (same_stride : stride ≡ s.stride) (same_coins : sequence coins ≡ sequence s.coins)
      (is : IsRecording n (sequence s.coins) stride (unroll (listed mid)) (observables_of (listed mid)) run) where
    new-is : b.new ≡ new
    new-is = ok_same b.new new (sym b.ahead ∙ ahead)

    new_steps : unroll (listed mid) ≡ unroll (listed new)
    new_steps = b.same_runs.steps ∙ ap (λ xs. unroll (listed xs)) new-is

    new_observables : observables_of (listed mid) ≡ observables_of (listed new)
    new_observables = b.same_runs.observables ∙ ap (λ xs. observables_of (listed xs)) new-is

    pub new-run : IsRecording n (sequence s.coins) stride (unroll (listed new)) (observables_of (listed new)) run
    new-run = subst (λ k. IsRecording n (sequence s.coins) stride (unroll (listed new)) k run) new_observables
        (subst (λ xs. IsRecording n (sequence s.coins) stride xs (observables_of (listed mid)) run) new_steps is)

    -- the session is recorded again
    pub edited-recorded : All HasDistinctQubits (unroll (listed mid)) → n ≤ 1024 → 1 ≤ stride → stride ≤ 65536 → IsRecorded sequence (session_of (listed new) stride coins run) run
    edited-recorded distinct few above within =
        session-recorded sequence (listed new) stride coins run n (sequence s.coins) same_coins new-run
        (subst (λ xs. check_within n (listed xs) ≡ None) new-is (verdict-checked n e old b.new b.edited b.accepted)) (subst (All HasDistinctQubits) new_steps distinct) few above within

    -- where its steps come again
    pub edited-repeats : (rs : List Repeat) → AreRepeats 0 (unroll (listed mid)) rs → AreRepeats 0 (unroll (listed new)) rs
    edited-repeats rs are = subst (λ xs. AreRepeats 0 xs rs) new_steps are

    -- it was edited by the edit
    pub session-edited : IsEditedBy sequence e s (session_of (listed new) stride coins run)
    session-edited = record {
      accepted = accepted;
      items =
          ap (λ i. edited e (entries i)) items
          ∙ ap (edited e) (entries-listed old)
          ∙ b.edited
          ∙ ap (λ xs. Ok xs) (new-is ∙ sym (entries-listed new));
      qubits = is.qubits ∙ sym qubits;
      stride = same_stride;
      coins = same_coins;
    }

    new_items : b.new ≡ entries (listed new)
    new_items = new-is ∙ sym (entries-listed new)

    first_is : span.first ≡ first_changed e (entries s.items)
    first_is = b.span.first ∙ sym (ap (first_changed e) old_items)

    -- it cost no more steps than are after the changed place, and a stride
    pub edited-applied : (applied : ℕ) → applied ≤ (length (unroll (listed mid)) - span.first) + stride → applied ≤ steps_from_change e s (session_of (listed new) stride coins run)
    edited-applied applied h = omega (arith, h, first_is, ap length new_steps)

    -- and frames went in vain over no more than three times those after the changed place
    pub edited-tried : (tried : ℕ) → tried ≤ 3 * (length (unroll (listed mid)) - span.first) → tried ≤ most_tried e s (session_of (listed new) stride coins run)
    edited-tried tried h = omega (arith, h, first_is, ap length new_steps)

    old_end_is : span.old_end ≡ old_end e (entries s.items)
    old_end_is = b.span.old_end ∙ sym (ap (old_end e) old_items)

    new_end_is : span.new_end ≡ new_end e (entries (listed new))
    new_end_is = b.span.new_end ∙ ap (new_end e) new_items

    -- it agrees with the old run after what was changed, whichever way this is said
    agreement : (far : ℕ) → AgreeAfter sequence e s (session_of (listed new) stride coins run) far
        ≡ AgreeAfterSpan n (sequence s.coins) (unroll (listed old)) (unroll (listed mid)) span far
    agreement far =
        (λ i. AgreeAt run.tableau.qubits (run-point s.qubits (observables_of s.items) (sequence s.coins) (take (old_end e (entries s.items) + far) (unroll s.items)) i)
        (run-point run.tableau.qubits (observables_of (listed new)) (sequence coins) (take (new_end e (entries (listed new)) + far) (unroll (listed new))) i))
        ∙ same_agree n s.qubits run.tableau.qubits (sequence s.coins) (sequence coins) (unroll (listed old)) (unroll s.items) (unroll (listed mid)) (unroll (listed new)) (span.old_end + far)
        (old_end e (entries s.items) + far) (span.new_end + far) (new_end e (entries (listed new)) + far) qubits is.qubits same_coins (ap unroll items)
        (sym new_steps) (ap (λ k. k + far) (sym old_end_is)) (ap (λ k. k + far) (sym new_end_is))

    agreement-back : (far : ℕ) → AgreeBackAfter sequence e s (session_of (listed new) stride coins run) far
        ≡ AgreeBackAfterSpan n (sequence s.coins) (unroll (listed old)) (unroll (listed mid)) span far
    agreement-back far =
        (λ i. AgreeAsFarAsLooked run.tableau.qubits (sequence s.coins) (drop (new_end e (entries (listed new)) + far) (unroll (listed new)))
        (run-point s.qubits (observables_of s.items) (sequence s.coins) (take (old_end e (entries s.items) + far) (unroll s.items)) i)
        (run-point run.tableau.qubits (observables_of (listed new)) (sequence coins) (take (new_end e (entries (listed new)) + far) (unroll (listed new))) i))
        ∙ same_agree_back n s.qubits run.tableau.qubits (sequence s.coins) (sequence coins) (unroll (listed old)) (unroll s.items) (unroll (listed mid)) (unroll (listed new))
        (span.old_end + far) (old_end e (entries s.items) + far) (span.new_end + far) (new_end e (entries (listed new)) + far) qubits is.qubits same_coins (ap unroll items)
        (sym new_steps) (ap (λ k. k + far) (sym old_end_is)) (ap (λ k. k + far) (sym new_end_is))

    -- so it cost just this many
    pub edited-counted : (applied passed : ℕ) (checkpoints : List ℕ) → applied ≡ passed → checkpoints ≡ s.checkpoints
        → IsCounted (AgreeAfterSpan n (sequence s.coins) (unroll (listed old)) (unroll (listed mid)) span)
        (AgreeBackAfterSpan n (sequence s.coins) (unroll (listed old)) (unroll (listed mid)) span) checkpoints span.first span.old_end span.new_end (length (unroll (listed mid))) applied
        → IsCountOf sequence e s (session_of (listed new) stride coins run) passed
    edited-counted applied passed checkpoints count same h =
        subst (λ t. t) (λ i. IsCounted (λ far. sym (agreement far) i) (λ far. sym (agreement-back far) i) (same i) (first_is i) (old_end_is i) (new_end_is i) (length (new_steps i)) (count i)) h

    -- if the runs agree this many steps after what was changed, it cost no more than what was put in, two strides, and as many

    put_is : span.new_end ≤ span.first + steps_put e (session_of (listed new) stride coins run)
    put_is =
        subst (λ xs. span.new_end ≤ span.first + steps_put_in e xs) new_items
        (omega (arith, b.span.new_end, b.span.first, put-within e (edit_path e).blocks old b.new b.edited))

    pub edited-early : (applied far : ℕ)
        → (AgreeAfterSpan n (sequence s.coins) (unroll (listed old)) (unroll (listed mid)) span far → applied ≤ ((span.new_end - span.first) + 2 * stride) + far)
        → AgreeAfter sequence e s (session_of (listed new) stride coins run) far → applied ≤ steps_near_change e (session_of (listed new) stride coins run) + far
    edited-early applied far near h = omega (arith, near (subst (λ t. t) (agreement far) h), put_is)
