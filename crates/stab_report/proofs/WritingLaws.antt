-- Laws of writing: calls that write one after another.
use Rattle.stab_report.proofs.Names.{◌≡◌, refl, sym, ap, ◌∙◌, subst, ℕ, List, [], ◌++◌, append-nil, length, take, Result, Ok, Err, take-append_seam, IsErrAnd, Bool, OutputView, Leaves, Took, TookAndFailed, TookSome, WritesAll, WritesAllOrFault, Refusal, WriteFault, Fault, whole, WroteUpTo, took_none, left_more, took_more, took_and_failed, failed_within}

-- nothing was written yet
pub took_some_none : (old : OutputView) (bytes : List ℕ) → TookSome old old bytes
took_some_none old bytes = ([], bytes, refl, took_none old)

-- these bytes were taken, and then the output was flushed, or a flush failed
pub left_after : {flushed failed : Bool} {a b c : OutputView} (xs : List ℕ) → Took a b xs → Leaves flushed failed b c [] → Leaves flushed failed a c xs
left_after {flushed} {failed} {a} {b} {c} xs took left = subst (λ l. Leaves flushed failed a c l) (append-nil xs) (left_more xs [] took left)

-- a call that writes after what was written
pub writes_after : {T : Type 0} {o p : OutputView} (q : OutputView) (xs ys : List ℕ) (r : Result T Refusal) → Took o p xs → WritesAll p q ys r → WritesAll o q (xs ++ ys) r
writes_after q xs ys (Ok x) before call = took_more xs ys before call
writes_after q xs ys (Err e) before call = (call.0, took_and_failed xs ys before call.1)

-- the same of the last of three
pub writes_third : {T : Type 0} {o p q : OutputView} (s : OutputView) (xs ys zs : List ℕ) (r : Result T Refusal) → Took o p xs → Took p q ys → WritesAll q s zs r → WritesAll o s (xs ++ (ys ++ zs)) r
writes_third s xs ys zs r first second call = writes_after s xs (ys ++ zs) r first (writes_after s ys zs r second call)

-- the second of three failed
pub failed_second : {o p q : OutputView} (xs ys zs : List ℕ) → Took o p xs → TookAndFailed p q ys → TookAndFailed o q (xs ++ (ys ++ zs))
failed_second xs ys zs first failed = took_and_failed xs (ys ++ zs) first (failed_within ys zs failed)

-- nothing is left to write
pub wrote_all : {a b : OutputView} (bytes rest : List ℕ) → rest ≡ [] → WroteUpTo a b bytes rest → Took a b bytes
wrote_all {a} {b} bytes rest none p = subst (λ l. Took a b l) (sym (p.1 ∙ ap (λ l. p.0 ++ l) none ∙ append-nil p.0)) p.2

-- a failed write is passed on as a fault
pub failed_as_fault : {T : Type 0} (a b : OutputView) (bytes : List ℕ) (f : Fault) (r : Result T Fault) → IsErrAnd r (λ y. y ≡ f) → f ≡ whole WriteFault → TookAndFailed a b bytes → WritesAllOrFault a b bytes r
failed_as_fault a b bytes f (Ok x) is fault failed = absurd is
failed_as_fault a b bytes f (Err y) is fault failed = (is ∙ fault, failed)

-- what is written in place of all items of a vector is what it has then
pub written : {A : Type 0} (n : ℕ) (new rest : List A) → n ≡ length new → take n (new ++ rest) ≡ new
written n new rest e = ap (λ m. take m (new ++ rest)) e ∙ take-append_seam new rest
