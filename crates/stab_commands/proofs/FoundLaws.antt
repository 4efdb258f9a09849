-- Laws of bytes that are found first: what the calls that write them pass on.
use Rattle.stab_commands.proofs.Names.{◌≡◌, ◌∙◌, ℕ, List, Result, Ok, Err, inl, inr, IsErrAnd, OutputView, Took, TookAndFailed, WriteFault, Fault, whole, SendsFound, SendsAtOnce, FlushesOrFault}
use Rattle.stab_report.proofs.WritingLaws.{left_after}

-- the output failed in a write
pub at_once_failed : (old new : OutputView) (bytes : List ℕ) (f : Fault) (r : Result (Unit {0}) Fault) → IsErrAnd r (λ y. y ≡ f) → f ≡ whole WriteFault → TookAndFailed old new bytes → SendsAtOnce bytes old new r
at_once_failed old new bytes f (Ok u) is fault failed = absurd is
at_once_failed old new bytes f (Err y) is fault failed = inl (is ∙ fault, inl failed)

-- all was written, and flushed or not
pub at_once_finished : {T : Type 0} (old mid new : OutputView) (bytes : List ℕ) (r : Result T Fault) → Took old mid bytes → FlushesOrFault mid new r → SendsAtOnce bytes old new r
at_once_finished old mid new bytes (Ok x) took flushed = left_after bytes took flushed
at_once_finished old mid new bytes (Err f) took failed = inl (failed.0, inr (left_after bytes took failed.1))

-- bytes like these were sent
pub found_at_once : {T : Type 0} (are : List ℕ → Type 0) (old new : OutputView) (bytes : List ℕ) (r : Result T Fault) → are bytes → SendsAtOnce bytes old new r → SendsFound are old new r
found_at_once are old new bytes (Ok x) is sent = (bytes, is, sent)
found_at_once are old new bytes (Err f) is (inl failed) = inl (failed.0, bytes, is, failed.1)
found_at_once are old new bytes (Err f) is (inr memory) = inr memory

-- bytes like these are bytes like those
pub found_as : {T : Type 0} (are like : List ℕ → Type 0) (old new : OutputView) (r : Result T Fault) → ((bytes : List ℕ) → are bytes → like bytes) → SendsFound are old new r → SendsFound like old new r
found_as are like old new (Ok x) as_those (bytes, is, sent) = (bytes, as_those bytes is, sent)
found_as are like old new (Err f) as_those (inl (fault, bytes, is, failed)) = inl (fault, bytes, as_those bytes is, failed)
found_as are like old new (Err f) as_those (inr memory) = inr memory
