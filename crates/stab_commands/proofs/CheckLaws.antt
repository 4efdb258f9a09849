-- Laws of checks: texts that are refused, and explanations that are cut off.
use Rattle.stab_commands.proofs.Names.{◌≡◌, refl, sym, ap, subst, ℕ, List, [], Result, Ok, Err, inl, inr, InputView, OutputView, TookSome, Refusal, Fault, whole, GaveText, RefusesText, IsFaultOf, ReadsCircuit, AppendsSome, SendsSome}
use Rattle.stab_report.proofs.WritingLaws.{took_some_none}

-- a text that was given whole was refused, by its own fault or for lack of memory
pub text_refused : (i i' : InputView) (text : List ℕ) (f : Fault) → GaveText i i' text → ReadsCircuit text (Err f) → RefusesText IsFaultOf i i' f
text_refused i i' text f gave (inl memory) =
    subst (RefusesText IsFaultOf i i') (sym memory) (inr (refl, inr (inr (refl, record { front = text; within = gave.within; gave = gave.gave.gave }))))
text_refused i i' text f gave (inr own) = inl (text, gave, own)

-- an explanation that was cut off is sent in part
pub explained_in_part : (old new : OutputView) (r : Result (Unit {0}) Refusal) → ((x : Unit {0}) → r ≡ Ok x → ⊥) → AppendsSome old new r → SendsSome old new
explained_in_part old new (Ok u) cut some = absurd (cut u refl)
explained_in_part old new (Err refusal) cut (inl failed) = (failed.1, Err (whole refusal), inl (ap whole failed.0, inl failed.2))
explained_in_part old new (Err refusal) cut (inr same) =
    ([], Err (whole refusal), inr (ap whole same.0, subst (λ o. TookSome old o []) (sym same.1) (took_some_none old [])))
