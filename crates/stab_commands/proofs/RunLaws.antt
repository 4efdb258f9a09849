-- Laws of runs: what the parts of a command pass on makes its end.
use Rattle.stab_commands.proofs.Names.{◌≡◌, refl, subst, sym, List, ℕ, Result, Ok, Err, inl, inr, IsErrAnd, InputView, OutputView, Fault, GaveText, RefusesText, Items, IsCircuit, IsFaultOf, Sends, EndsRun}

-- A call whose text was refused.
pub ends_refused : (output : Items → List ℕ) (i i' : InputView) (o : OutputView) (f : Fault) (r : Result (Unit {0}) Fault) → RefusesText IsFaultOf i i' f → IsErrAnd r (λ y. y ≡ f) → EndsRun output i i' o o r
ends_refused output i i' o f (Ok u) refuses is = absurd is
ends_refused output i i' o f (Err y) refuses is = inl (refl, subst (λ g. RefusesText IsFaultOf i i' g) (sym is) refuses)

-- A call whose text was given whole.
pub ends_sent : (output : Items → List ℕ) (i i' : InputView) (o o' : OutputView) (text : List ℕ) (items : Items) (r : Result (Unit {0}) Fault)
    → GaveText i i' text → IsCircuit text items → Sends (output items) o o' r → EndsRun output i i' o o' r
ends_sent output i i' o o' text items (Ok u) gave circuit sends = (items, (text, gave, circuit), sends)
ends_sent output i i' o o' text items (Err f) gave circuit sends = inr (items, (text, gave, circuit), sends)
