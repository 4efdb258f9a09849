-- What devices handed over or took in one call after another.
use Rattle.std.proofs.Common.{ℕ, Bool, take, drop, ◌≡◌, refl, sym, ap, ◌∙◌, subst, List, [], ◌++◌, append_assoc, append-nil, Result, Ok, Err}
use Rattle.std.specs.Result.{IsErrAnd}
use Rattle.std.proofs.lemmas.List.{take-append-drop}
use Rattle.stab_io.specs.Devices.{InputView, OutputView, Gave, GaveAndFailed, Leaves, Took, TookAndFailed, WritesAll, counted_up, counted_if}
use Rattle.stab_io.specs.declared.refusal.Refusal.{Refusal}
use Rattle.stab_io.specs.declared.refusal.Refusal.TheVariants.{WriteFault}

-- inputs

pub gave_none : (i : InputView) → Gave i i []
gave_none i = record { as_honest = λ h. h; preserved = refl; moved = λ h. refl }

pub gave_more : {a b c : InputView} (xs ys : List ℕ) → Gave a b xs → Gave b c ys → Gave a c (xs ++ ys)
gave_more {a} {b} {c} xs ys p q = record {
  as_honest = λ h. q.as_honest (p.as_honest h);
  preserved = q.preserved ∙ p.preserved;
  moved = λ h. p.moved h ∙ ap (λ l. xs ++ l) (q.moved (p.as_honest h)) ∙ sym (append_assoc xs ys c.unread);
}

pub gave_and_failed : {a b c : InputView} (xs : List ℕ) → Gave a b xs → GaveAndFailed b c [] → GaveAndFailed a c xs
gave_and_failed {a} {b} {c} xs p q = record {
  as_honest = λ h. q.as_honest (p.as_honest h);
  failed = q.failed ∙ ap counted_up p.preserved;
  moved = λ h. p.moved h ∙ ap (λ l. xs ++ l) (q.moved (p.as_honest h));
}

-- outputs

pub took_none : (o : OutputView) → Took o o []
took_none o = record { as_honest = λ h. h; failures = refl; flushes = refl; moved = λ h. sym (append-nil o.written) }

-- bytes are taken, and then what a call leaves is left
pub left_more : {flushed failed : Bool} {a b c : OutputView} (xs ys : List ℕ) → Took a b xs → Leaves flushed failed b c ys → Leaves flushed failed a c (xs ++ ys)
left_more {flushed} {failed} {a} {b} {c} xs ys p q = record {
  as_honest = λ h. q.as_honest (p.as_honest h);
  failures = q.failures ∙ ap (counted_if failed) p.failures;
  flushes = q.flushes ∙ ap (counted_if flushed) p.flushes;
  moved = λ h. q.moved (p.as_honest h) ∙ ap (λ l. l ++ ys) (p.moved h) ∙ append_assoc a.written xs ys;
}

pub took_more : {a b c : OutputView} (xs ys : List ℕ) → Took a b xs → Took b c ys → Took a c (xs ++ ys)
took_more xs ys p q = left_more xs ys p q

pub took_and_failed : {a b c : OutputView} (xs ys : List ℕ) → Took a b xs → TookAndFailed b c ys → TookAndFailed a c (xs ++ ys)
took_and_failed xs ys p (front, rest, is, failed) = (xs ++ front, rest, ap (λ l. xs ++ l) is ∙ sym (append_assoc xs front rest), left_more xs front p failed)

-- what is a prefix of the front is a prefix of the whole
pub failed_within : {a b : OutputView} (xs ys : List ℕ) → TookAndFailed a b xs → TookAndFailed a b (xs ++ ys)
failed_within xs ys (front, rest, is, failed) = (front, rest ++ ys, ap (λ l. l ++ ys) is ∙ append_assoc front rest ys, failed)

-- all bytes except the rest were written
abbrev pub WroteUpTo : OutputView → OutputView → List ℕ → List ℕ → Type 0
WroteUpTo a b bytes rest = (front : List ℕ) × (bytes ≡ front ++ rest) × Took a b front

-- nothing was written yet
pub wrote_none : (a : OutputView) (bytes : List ℕ) → WroteUpTo a a bytes bytes
wrote_none a bytes = ([], refl, took_none a)

-- a part of what was left is written whole
pub wrote_part : {a b c : OutputView} (bytes left part rest : List ℕ) → left ≡ part ++ rest
    → WroteUpTo a b bytes left → Took b c part → WroteUpTo a c bytes rest
wrote_part bytes left part rest e p q = (
  p.0 ++ part,
  p.1 ∙ ap (λ l. p.0 ++ l) e ∙ sym (append_assoc p.0 part rest),
  took_more p.0 part p.2 q,
)

-- the first bytes of what was left are written
pub wrote_on : {a b c : OutputView} (bytes left rest : List ℕ) (n : ℕ) → WroteUpTo a b bytes left → Took b c (take n left) → rest ≡ drop n left → WroteUpTo a c bytes rest
wrote_on bytes left rest n p q e =
    wrote_part bytes left (take n left) rest (sym (take-append-drop n left) ∙ ap (λ l. take n left ++ l) (sym e)) p q

-- a part of what was left is written in part
pub wrote_and_failed : {a b c : OutputView} (bytes left part rest : List ℕ) → left ≡ part ++ rest
    → WroteUpTo a b bytes left → TookAndFailed b c part → TookAndFailed a c bytes
wrote_and_failed {a} {b} {c} bytes left part rest e p q =
    subst (λ l. TookAndFailed a c l) (sym (p.1 ∙ ap (λ l. p.0 ++ l) e))
    (took_and_failed p.0 (part ++ rest) p.2 (failed_within part rest q))

-- a failed write is passed on as the device reported it
pub failed_on : {T : Type 0} (a b : OutputView) (bytes : List ℕ) (e : Refusal) (r : Result T Refusal) → IsErrAnd r (λ y. y ≡ e)
    → e ≡ WriteFault → TookAndFailed a b bytes → WritesAll a b bytes r
failed_on a b bytes e (Ok x) is fault failed = absurd is
failed_on a b bytes e (Err y) is fault failed = (is ∙ fault, failed)
