-- Laws of what `propagate` sends: bytes that are sent whole or in part.
use Rattle.stab_script.proofs.Names.{◌≡◌, ap, subst, ◌∙◌, ℕ, List, Result, Ok, Err, inl, inr}
use Rattle.std.specs.Prelude.{IsErrAnd, MatchResult}
use Rattle.stab_io.specs.Devices.{OutputView, Took, WritesAll}
use Rattle.stab_io.specs.Refusals.{whole}
use Rattle.stab_io.specs.declared.refusal.Fault.{Fault}
use Rattle.stab_io.specs.declared.refusal.Refusal.{Refusal}
use Rattle.stab_report.specs.Endings.{SendsFound, FlushesOrFault}
use Rattle.stab_report.proofs.WritingLaws.{left_after}

-- what a call gave is what it gave before its refusals were named faults
pub given_before : {A : Type 0} (w : Result A Refusal) (m : Result A Fault) (x : A) → MatchResult w (λ y. m ≡ Ok y) (λ e. IsErrAnd m (λ y. y ≡ whole e)) → m ≡ Ok x → w ≡ Ok x
given_before (Ok y) m x k s = let same : y ≡ x = cc in ap Ok same
given_before (Err e) m x k s = absurd (subst (λ r. IsErrAnd r (λ y. y ≡ whole e)) s k)

-- the output failed in a write of bytes like these
pub found_failed : {T : Type 0} (are : List ℕ → Type 0) (old new : OutputView) (bytes : List ℕ) (w : Result (Unit {0}) Refusal) (m : Result (Unit {0}) Fault) (f : Fault) (r : Result T Fault)
    → are bytes → WritesAll old new bytes w → MatchResult w (λ x. m ≡ Ok x) (λ e. IsErrAnd m (λ y. y ≡ whole e)) → m ≡ Err f → IsErrAnd r (λ y. y ≡ f) → SendsFound are old new r
found_failed are old new bytes w m f (Ok x) is writes named reported same = absurd same
found_failed are old new bytes (Ok u) m f (Err y) is writes named reported same = cc
found_failed are old new bytes (Err e) m f (Err y) is writes named reported same =
    let fault = subst (λ z. IsErrAnd z (λ y. y ≡ whole e)) reported named in
    inl (same ∙ fault ∙ ap whole writes.0, bytes, is, inl writes.1)

-- bytes like these were written, and flushed or not
pub found_finished : {T : Type 0} (are : List ℕ → Type 0) (old mid new : OutputView) (bytes : List ℕ) (r : Result T Fault) → are bytes → Took old mid bytes → FlushesOrFault mid new r → SendsFound are old new r
found_finished are old mid new bytes (Ok x) is took flushed = (bytes, is, left_after bytes took flushed)
found_finished are old mid new bytes (Err f) is took failed = inl (failed.0, bytes, is, inr (left_after bytes took failed.1))
