-- Laws of answers from a session: what its calls say is what scripts are answered.
use Rattle.stab_script.proofs.Names.{◌≡◌, ◌≢◌, ℕ, Bool, true, false, min, length, List, refl, sym, ap, subst, ◌∙◌, Option, Some, None, Result, Ok, Err, inl, inr, ◌⊎◌, IfOk, IfErr, IsErrAnd, Refusal, OutOfMemory, Fault, IsCallFault, Items, OneItem, before, done, listed, entries, Path, item_at, printed, Edit, edited, verdict, list_verdict, listed-entries, entries-listed, SessionState, IsEditedBy, IsAsBefore, unroll, steps_cap, check_within, State, CountedRequest, check-whole, steps_counted, refused_text, Signed, member, IsSignIn, sign_in, sign_line, ReplyBytes, GivesText, Held, unless, verdict_on, decided, refusing, counted_shown, held_after, shown_or_refused, counted_answer, held_of, answered, ShotBits, made_text, reply_text, text_found, BookmarkedBits}
use Rattle.stab_script.proofs.SignAnswerLaws.{reported_sign}

-- items and a bookmark
abbrev held_with : Items → ShotBits → Held
held_with items m = record { items = items; bookmark = m }

-- what an edit that was made leaves
pub made_items : {C : Type 0} (sequence : C → ℕ → Bool) (e : Edit) (old new : SessionState C) → IsEditedBy sequence e old new
    → verdict_on old.qubits (edited e (entries old.items)) ≡ Ok new.items
made_items sequence e old new is =
    let after : edited e (entries old.items) ≡ Ok (entries new.items) = is.items in
    let passes : list_verdict old.qubits (Ok (entries new.items)) ≡ None = sym (ap (list_verdict old.qubits) after) ∙ is.accepted in
    ap (verdict_on old.qubits) after ∙ ap (λ v. unless v (listed (entries new.items))) passes ∙ ap Ok (listed-entries new.items)

judged_refused : (n : ℕ) (r : Result (List OneItem) Refusal) (x : Refusal) → list_verdict n r ≡ Some x → verdict_on n r ≡ Err x
judged_refused n (Ok ys) x e = ap (λ v. unless v (listed ys)) e
judged_refused n (Err y) x e = let same : y ≡ x = cc in ap Err same

refused_by : (preserved : Bool) (n : ℕ) (r : Result (List OneItem) Refusal) (held : Held) (f : Fault) (v : Option Refusal) → list_verdict n r ≡ v → IsCallFault v f → f.refusal ≢ OutOfMemory
    → refusing held f.refusal ≡ decided preserved held (verdict_on n r)
refused_by preserved n r held f (Some x) e is some = ap (λ (g : Fault). refusing held g.refusal) is ∙ sym (ap (decided preserved held) (judged_refused n r x e))
refused_by preserved n r held f None e is some = absurd (some (ap (λ (g : Fault). g.refusal) is))

-- an edit that was refused, not for lack of memory
pub refused_answer : (preserved : Bool) (n : ℕ) (r : Result (List OneItem) Refusal) (held : Held) (f : Fault) → IsCallFault (list_verdict n r) f → f.refusal ≢ OutOfMemory
    → refusing held f.refusal ≡ decided preserved held (verdict_on n r)
refused_answer preserved n r held f is some = refused_by preserved n r held f (list_verdict n r) refl is some

-- what is said of an edit that was made
pub reported_made : {C : Type 0} (sequence : C → ℕ → Bool) (preserved : Bool) (e : Edit) (old new : SessionState C) (m : BookmarkedBits) (reply : List ℕ) → IsEditedBy sequence e old new → reply ≡ made_text preserved
    → answered (held_of new m) reply false ≡ decided preserved (held_of old m) (verdict_on old.qubits (edited e (entries old.items)))
reported_made sequence preserved e old new m reply is same =
    ap (λ l. answered (held_of new m) l false) same ∙ sym (ap (decided preserved (held_of old m)) (made_items sequence e old new is))

pub same_refusal : {held others : Held} {reply : List ℕ} {refused : Bool} (r : Refusal) → held ≡ others → reply ≡ refused_text r → refused ≡ true → answered held reply refused ≡ refusing others r
same_refusal {held} {others} {reply} {refused} r e f g =
    ap (λ x. answered x reply refused) e ∙ ap (λ l. answered others l refused) f ∙ ap (λ b. answered others (refused_text r) b) g

-- what is said of an edit that was refused
pub reported_refusal : {C : Type 0} (sequence : C → ℕ → Bool) (preserved : Bool) (e : Edit) (old new : SessionState C) (m : BookmarkedBits) (f : Fault) (reply : List ℕ) (refused : Bool) → IsAsBefore sequence old new
    → IsCallFault (verdict old.qubits e (entries old.items)) f → f.refusal ≢ OutOfMemory → reply ≡ refused_text f.refusal → refused ≡ true
    → answered (held_of new m) reply refused ≡ decided preserved (held_of old m) (verdict_on old.qubits (edited e (entries old.items)))
reported_refusal sequence preserved e old new m f reply refused is fault some same true_is =
    same_refusal f.refusal (ap (λ x. held_with x (held_of old m).bookmark) is.items) same true_is ∙ refused_answer preserved old.qubits (edited e (entries old.items)) (held_of old m) f fault some

-- the steps of a circuit that nothing refuses are counted to the end
pub steps_reported : (n k : ℕ) (items : Items) → check_within n items ≡ None → k ≡ min (length (unroll items)) steps_cap → k ≡ length (unroll items)
steps_reported n k items e f = f ∙ steps_counted items (check-whole n items e)

-- a reply to what is shown, and its refusal
pub reported_counted : (run : State) (held following : Held) (n : ℕ) (r : CountedRequest) (text : List ℕ) → counted_shown n run held r ≡ Ok text → following ≡ held_after run held r
    → answered following (reply_text true text) false ≡ counted_answer true n run held r
reported_counted run held following n r text e f =
    ap (λ x. answered x (reply_text true text) false) f ∙ sym (ap (shown_or_refused true held (held_after run held r)) e)

pub refused_counted : (run : State) (held : Held) (n : ℕ) (r : CountedRequest) (e : Refusal) → counted_shown n run held r ≡ Err e → refusing held e ≡ counted_answer true n run held r
refused_counted run held n r e f = sym (ap (shown_or_refused true held (held_after run held r)) f)

-- the items of a circuit are those of its session
same_entries : (circuit : List OneItem) (items : Items) → listed circuit ≡ items → entries items ≡ circuit
same_entries circuit items same = sym (ap entries same) ∙ entries-listed circuit

-- the text of an item
abbrev item_text : OneItem → List ℕ
item_text x = printed (before x done)

-- if there is no item at a path of the circuit, none is shown
pub item_refused : (circuit : List OneItem) (items : Items) (path : Path) (r : Refusal) (result : Result ReplyBytes Refusal) → IsErrAnd result (λ x. x ≡ r) → listed circuit ≡ items
    → item_at path circuit ≡ Err r → GivesText result (text_found item_text (item_at path (entries items)))
item_refused circuit items path r (Ok reply) is same found = absurd is
item_refused circuit items path r (Err x) is same found =
    inr (ap (λ xs. text_found item_text (item_at path xs)) (same_entries circuit items same) ∙ (ap (text_found item_text) found ∙ ap Err (sym is)))

-- and if there is one, its text is
pub item_reported : (circuit : List OneItem) (items : Items) (path : Path) (x : OneItem) (made : Result ReplyBytes Fault) (result : Result ReplyBytes Refusal) → listed circuit ≡ items
    → item_at path circuit ≡ Ok x → IfOk made (λ r. r.written ≡ printed (before x done)) → IfOk result (λ r. made ≡ Ok r) → IfErr result (λ r. r ≡ OutOfMemory)
    → GivesText result (text_found item_text (item_at path (entries items)))
item_reported circuit items path x made (Ok reply) same found written is err =
    let text : reply.written ≡ printed (before x done) = subst (λ (m : Result ReplyBytes Fault). IfOk m (λ r. r.written ≡ printed (before x done))) is written in
    ap (λ xs. text_found item_text (item_at path xs)) (same_entries circuit items same) ∙ (ap (text_found item_text) found ∙ ap Ok (sym text))
item_reported circuit items path x made (Err r) same found written is err = inl err

-- the sign of a string is reported as the group of the run has it
pub sign_reported : (run : State) (given : Result Signed Refusal) (p : Signed) (sign : Option Bool) (made : Result ReplyBytes Fault) (result : Result ReplyBytes Refusal) → given ≡ Ok p
    → IsSignIn (member run.trace) p sign → IfOk made (λ r. r.written ≡ sign_line sign) → IfOk result (λ r. made ≡ Ok r) → IfErr result (λ r. r ≡ OutOfMemory)
    → GivesText result (text_found (λ p. sign_line (sign_in (member run.trace) p)) given)
sign_reported run given p sign made (Ok reply) is in_group written same err =
    let text : reply.written ≡ sign_line sign = subst (λ (m : Result ReplyBytes Fault). IfOk m (λ r. r.written ≡ sign_line sign)) same written in
    ap (text_found (λ p. sign_line (sign_in (member run.trace) p))) is ∙ (ap Ok (ap sign_line (sym (reported_sign (member run.trace) p sign in_group))) ∙ ap Ok (sym text))
sign_reported run given p sign made (Err r) is in_group written same err = inl err

-- a request that only a counted script makes, refused
pub counted_refused : (held others : Held) (run : State) (n : ℕ) (request : CountedRequest) (counted : Bool) (r : Refusal) (reply : List ℕ) (refused : Bool) → counted ≡ true → held ≡ others
    → (r ≡ OutOfMemory) ⊎ (counted_shown n run others request ≡ Err r) → r ≢ OutOfMemory → reply ≡ refused_text r → refused ≡ true
    → answered held reply refused ≡ counted_answer counted n run others request
counted_refused held others run n request counted r reply refused is_counted same (inl memory) some text flag = absurd (some memory)
counted_refused held others run n request counted r reply refused is_counted same (inr shown) some text flag =
    same_refusal r same text flag ∙ (refused_counted run others n request r shown ∙ ap (λ b. counted_answer b n run others request) (sym is_counted))
