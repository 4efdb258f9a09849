-- Writes one after another.
use Rattle.stab_instructions.proofs.Names.{◌≡◌, ℕ, List, ◌++◌, Result, Ok, Err, sym, ap, ◌∙◌, subst, append_assoc, Refusal, WriteFault, OutputView, Took, TookAndFailed, WritesAll, took_more, took_and_failed, failed_within}

-- a write that fails ends the writing, and its failure is passed on
failed_case : {a b : OutputView} {r e : Refusal} (q : Result (Unit {0}) Refusal) (front back : List ℕ)
    → q ≡ Err e → e ≡ r → (r ≡ WriteFault) × TookAndFailed a b front → WritesAll a b (front ++ back) q
failed_case (Ok x) front back p k s = cc
failed_case {a} {b} {r} {e} (Err y) front back p k s = (let same : y ≡ e = cc in same ∙ k ∙ s.0, failed_within front back s.1)

pub writes_failed : {a b : OutputView} {r e : Refusal} {q : Result (Unit {0}) Refusal} {front : List ℕ} (back : List ℕ)
    → q ≡ Err e → e ≡ r → (r ≡ WriteFault) × TookAndFailed a b front → WritesAll a b (front ++ back) q
writes_failed {a} {b} {r} {e} {q} {front} back p k s = failed_case q front back p k s

-- a write, and what is written after it
then_case : (a b c : OutputView) (q : Result (Unit {0}) Refusal) (front back : List ℕ) → Took a b front → WritesAll b c back q → WritesAll a c (front ++ back) q
then_case a b c (Ok y) front back s t = took_more front back s t
then_case a b c (Err e) front back s t = (t.0, took_and_failed front back s t.1)

pub writes_then : {a b : OutputView} {front : List ℕ} (c : OutputView) (r : Result (Unit {0}) Refusal) (back : List ℕ) → Took a b front → WritesAll b c back r → WritesAll a c (front ++ back) r
writes_then {a} {b} {front} c r back s t = then_case a b c r front back s t

-- the same bytes
pub writes_as : {x y : List ℕ} (a b : OutputView) (r : Result (Unit {0}) Refusal) → x ≡ y → WritesAll a b x r → WritesAll a b y r
writes_as a b r e s = subst (λ l. WritesAll a b l r) e s

pub took_as : {a b : OutputView} {x y : List ℕ} → x ≡ y → Took a b x → Took a b y
took_as {a} {b} e s = subst (λ l. Took a b l) e s

-- some of a whole was written, and this is left
abbrev pub HasWritten : OutputView → OutputView → List ℕ → List ℕ → Type 0
HasWritten a b whole left = (front : List ℕ) × Took a b front × (whole ≡ front ++ left)

pub written_more : {a b c : OutputView} (whole left piece rest : List ℕ) → HasWritten a b whole left → left ≡ piece ++ rest → Took b c piece → HasWritten a c whole rest
written_more whole left piece rest h e t = (h.0 ++ piece, took_more h.0 piece h.1 t, h.2 ∙ ap (λ l. h.0 ++ l) e ∙ sym (append_assoc h.0 piece rest))

pub written_failed : {a b c : OutputView} {r e : Refusal} {q : Result (Unit {0}) Refusal} (whole left piece rest : List ℕ) → HasWritten a b whole left → left ≡ piece ++ rest
    → q ≡ Err e → e ≡ r → (r ≡ WriteFault) × TookAndFailed b c piece → WritesAll a c whole q
written_failed {a} {b} {c} {r} {e} {q} whole left piece rest h same p k s =
    writes_as a c q (sym (h.2 ∙ ap (λ l. h.0 ++ l) same)) (writes_then c q (piece ++ rest) h.1 (writes_failed rest p k s))
