-- Laws of bits that are the same for all random bits: some bits name them, no others do, and a counted script gets them.
use Rattle.stab_script.proofs.Names.{◌≡◌, ℕ, Bool, true, false, List, get_or, refl, sym, ap, ◌∙◌, subst, ◌<◌, arith, Some, None, Result, Ok, Err, if◌then◌else◌, nat_lt, ext_get_or, OutOfMemory, BadCommand, QubitOutOfRange, Fault, whole, IsCallFault, same_test, Items, unroll, qubits_of, check_of, check_within, AreOfLines, LinesKeepQubitsDistinct, check-fits, check-whole, bits_in, AreDeterministic, DeterministicParities, F01, f01_bytes, IsDeterministicText, refused_text, Held, Answer, IsDeterministicAnswer, reply_text, answered, ReplyBytes, Answered, deterministic-found}
use Rattle.std.proofs.Common.{IfOk}
use Rattle.stab_script.proofs.SessionAnswerLaws.{same_refusal}

-- items that nothing refuses are not refused on as many qubits as they name
pub checked_on_own : (n : ℕ) (items : Items) → n ≡ qubits_of items → check_of items ≡ None → check_within n items ≡ None
checked_on_own n items is checked = by_test (nat_lt n (qubits_of items)) refl
  where
    by_test : (b : Bool) → nat_lt n (qubits_of items) ≡ b → (if b then Some QubitOutOfRange else check_of items) ≡ None
    by_test false e = checked
    by_test true e = absurd (grind arith)

-- so a call that only such a refusal and lack of memory fail wanted memory
pub deterministic_fault : (n : ℕ) (items : Items) (f : Fault) → n ≡ qubits_of items → check_of items ≡ None → IsCallFault (check_within n items) f → f ≡ whole OutOfMemory
deterministic_fault n items f is checked fault = subst (λ v. IsCallFault v f) (checked_on_own n items is checked) fault

-- so for items that can be edited there is a line of such bits
pub deterministic_text : DeterministicParities → LinesKeepQubitsDistinct → (n : ℕ) (items : Items) → AreOfLines items → check_within n items ≡ None → (text : List ℕ) × IsDeterministicText F01 items text
deterministic_text law distinct n items lines checked =
    let own : check_within (qubits_of items) items ≡ None = checked_on_own (qubits_of items) items refl (check-whole n items checked) in
    let found = deterministic-found law (qubits_of items) items (check-fits (qubits_of items) items (unroll items) own refl (distinct lines.0 items lines.1)) in
    (f01_bytes found.0, (found.0, found.1, refl))

-- no other bits name them
one_deterministic : (n : ℕ) (items : Items) (a b : List Bool) → AreDeterministic n items a → AreDeterministic n items b → b ≡ a
one_deterministic n items a b p q =
    ext_get_or false b a (q.count ∙ sym p.count)
    (λ i lt.
    let within : i < bits_in items = omega (arith, lt, q.count) in
    same_test (get_or b i false) (get_or a i false) (λ e. (p.exact i within).1 ((q.exact i within).0 e)) (λ e. (q.exact i within).1 ((p.exact i within).0 e)))

-- so there is one line of them
pub one_deterministic_text : (items : Items) (x y : List ℕ) → IsDeterministicText F01 items x → IsDeterministicText F01 items y → y ≡ x
one_deterministic_text items x y p q = q.2 ∙ ap f01_bytes (one_deterministic (qubits_of items) items p.0 q.0 p.1 q.1) ∙ sym p.2

-- and a reply of the bits that are found is the line
pub deterministic_shown : (items : Items) (n : ℕ) (deterministic bits : List Bool) (made : Result ReplyBytes Fault) → AreDeterministic n items deterministic → n ≡ qubits_of items → bits ≡ deterministic → IfOk made (λ r. r.written ≡ f01_bytes bits)
    → IfOk made (λ r. IsDeterministicText F01 items r.written)
deterministic_shown items n deterministic bits (Ok r) are is same written = (deterministic, subst (λ k. AreDeterministic k items deterministic) is are, written ∙ ap f01_bytes same)
deterministic_shown items n deterministic bits (Err f) are is same written = tt

-- a script that is not counted is refused
deterministic_refused : (counted : Bool) (held : Held) (reply : List ℕ) (refused : Bool) → counted ≡ false → reply ≡ refused_text BadCommand → refused ≡ true
    → IsDeterministicAnswer counted held (answered held reply refused)
deterministic_refused counted held reply refused is text flag = subst (λ b. IsDeterministicAnswer b held (answered held reply refused)) (sym is) (same_refusal BadCommand refl text flag)

pub deterministic_refusal : (counted : Bool) (held : Held) (result : Result Answered Fault) → counted ≡ false → IfOk result (λ a. a.reply.written ≡ refused_text BadCommand) → IfOk result (λ a. a.refused ≡ true)
    → IfOk result (λ a. IsDeterministicAnswer counted held (answered held a.reply.written a.refused))
deterministic_refusal counted held (Ok a) is text flag = deterministic_refused counted held a.reply.written a.refused is text flag
deterministic_refusal counted held (Err f) is text flag = tt

-- a counted one gets them
pub deterministic_reported : (counted : Bool) (held : Held) (items : Items) (text reply : List ℕ) → counted ≡ true → items ≡ held.items → IsDeterministicText F01 items text → reply ≡ reply_text true text
    → IsDeterministicAnswer counted held (answered held reply false)
deterministic_reported counted held items text reply is same deterministic reported =
    subst (λ b. IsDeterministicAnswer b held (answered held reply false)) (sym is) (text, subst (λ (x : Items). IsDeterministicText F01 x text) same deterministic, ap (λ l. answered held l false) reported)

-- the answers of a counted script and of one that is not
pub one_deterministic_answer : (counted : Bool) (held : Held) (a b : Answer) → IsDeterministicAnswer counted held a → IsDeterministicAnswer counted held b → b ≡ a
one_deterministic_answer false held a b p q = q ∙ sym p
one_deterministic_answer true held a b p q =
    q.2 ∙ ap (λ l. answered held (reply_text true l) false) (one_deterministic_text held.items p.0 q.0 p.1 q.1) ∙ sym p.2
