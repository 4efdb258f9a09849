-- Laws of endings: how a call ends that reads a circuit, looks at its marks, and goes on with it.
use Rattle.stab_commands.proofs.Names.{◌≡◌, ◌∙◌, refl, sym, subst, Bool, ℕ, List, Result, Ok, Err, Option, None, ◌∷◌, [], length, inl, inr, IsErrAnd, InputView, OutputView, OutOfMemory, Fault, whole, Items, RefusesText, IsFaultOf, FaultsRefused, fault_of, random_of, GoesOnWithItems, DistanceOptions, Heard, AreErrorsOf, HearsDistance}
use Rattle.std.specs.Prelude.{false}
use Rattle.stab_search.specs.Progress.{Hears, begins}
use Rattle.stab_error_model.specs.ErrorTables.{ErrorTableState}
use Rattle.stab_error_model.specs.declared.doubts.DoubtfulMark.{DoubtfulMark}
use Rattle.stab_report.specs.Endings.{GaveCircuit, Sends}
use Rattle.stab_report.specs.SingleErrorTables.{EndsOrNames}
use Rattle.stab_report.specs.Distances.{HearsErrors, ReportsDistance, ReportsErrors}
use Rattle.stab_report.specs.DoubtLines.{ReportsIfOk, Warns, doubts_of}
use Rattle.stab_report.specs.MissingObservables.{WarnsOf}
use Rattle.stab_report.proofs.WritingLaws.{took_some_none}

-- memory was refused before anything was written
pub unsent : {T : Type 0} (are : Items → List ℕ → Type 0) (deterministic_only : Bool) (i i' : InputView) (o : OutputView) (items : Items) (f : Fault) (r : Result T FaultsRefused)
    → GaveCircuit i i' items → f ≡ whole OutOfMemory → IsErrAnd r (λ y. y ≡ record { fault = f; random = None }) → EndsOrNames are deterministic_only i i' o o (fault_of r) (random_of r)
unsent are deterministic_only i i' o items f (Ok x) gave memory is = absurd is
unsent {T} are deterministic_only i i' o items f (Err y) gave memory is =
    subst (λ z. EndsOrNames {T = T} are deterministic_only i i' o o (Err z.fault) z.random) (sym is) (inr (items, gave, inr (memory, refl)))

-- what a call with the items ended by is passed on
pub refusal_handed : {T : Type 0} (are : Items → List ℕ → Type 0) (deterministic_only : Bool) (i i' : InputView) (o o' : OutputView) (items : Items) (e : FaultsRefused) (r : Result T FaultsRefused)
    → GaveCircuit i i' items → GoesOnWithItems {T = T} (are items) deterministic_only items e.random o o' (Err e.fault) → IsErrAnd r (λ y. y ≡ e)
    → EndsOrNames are deterministic_only i i' o o' (fault_of r) (random_of r)
refusal_handed are deterministic_only i i' o o' items e (Ok x) gave goes is = absurd is
refusal_handed {T} are deterministic_only i i' o o' items e (Err y) gave goes is =
    subst (λ z. EndsOrNames {T = T} are deterministic_only i i' o o' (Err z.fault) z.random) (sym is) (inr (items, gave, goes))

-- of a text that was refused no search is heard
pub unheard : {T : Type 0} (options : DistanceOptions) (i i' : InputView) (heard : Option (List Heard)) (f : Fault) (r : Result T FaultsRefused)
    → RefusesText IsFaultOf i i' f → IsErrAnd r (λ y. y ≡ record { fault = f; random = None }) → ReportsDistance options i i' heard heard (fault_of r)
unheard options i i' heard f (Ok x) refused is = absurd is
unheard options i i' heard f (Err y) refused is = inl (refl, subst (λ (z : FaultsRefused). RefusesText IsFaultOf i i' z.fault) (sym is) refused)

-- what was heard of a call with the items that ended by a fault was heard of the whole call
pub heard_on : {T : Type 0} (options : DistanceOptions) (i i' : InputView) (old new : Option (List Heard)) (items : Items) (r : Result T FaultsRefused) (x : FaultsRefused)
    → GaveCircuit i i' items → HearsDistance {T = T} options items old new (Err x.fault) → r ≡ Err x → ReportsDistance options i i' old new (fault_of r)
heard_on options i i' old new items r x gave heard is = subst (λ s. ReportsDistance options i i' old new (fault_of s)) (sym is) (inr (items, gave, heard))

-- of a text that was refused no number of errors is heard
pub errors_unheard : {T : Type 0} (options : DistanceOptions) (i i' : InputView) (heard : Option (List Heard)) (f : Fault) (r : Result T FaultsRefused)
    → RefusesText IsFaultOf i i' f → IsErrAnd r (λ y. y ≡ record { fault = f; random = None }) → ReportsErrors options i i' heard heard (fault_of r)
errors_unheard options i i' heard f (Ok x) refused is = absurd is
errors_unheard options i i' heard f (Err y) refused is = inl (refl, subst (λ (z : FaultsRefused). RefusesText IsFaultOf i i' z.fault) (sym is) refused)

-- how many errors were heard of a call with the items that ended by a fault, were heard of the whole call
pub errors_heard : {T : Type 0} (options : DistanceOptions) (i i' : InputView) (old new : Option (List Heard)) (items : Items) (r : Result T FaultsRefused) (x : FaultsRefused)
    → GaveCircuit i i' items → HearsErrors options items old new → r ≡ Err x → ReportsErrors options i i' old new (fault_of r)
errors_heard options i i' old new items r x gave heard is = subst (λ s. ReportsErrors options i i' old new (fault_of s)) (sym is) (inr (items, gave, heard))

-- what was heard before the first search, or instead of one: how many errors there are
pub heard_over : (options : DistanceOptions) (items : Items) (t : ErrorTableState) (old new : Option (List Heard)) (count : ℕ) → AreErrorsOf options items t → count ≡ length t.errors
    → Hears old new (begins count ∷ []) → HearsErrors options items old new
heard_over options items t old new count are is hears = inr (t, are, subst (λ n. Hears old new (begins n ∷ [])) is hears)

-- memory was refused after the circuit was read, and before anything was written
pub unsent_on : {T : Type 0} (are : List ℕ → Type 0) (deterministic_only : Bool) (items : Items) (f : Fault) (r : Result T FaultsRefused) (old : OutputView) → f ≡ whole OutOfMemory
    → IsErrAnd r (λ y. y ≡ record { fault = f; random = None }) → GoesOnWithItems are deterministic_only items (random_of r) old old (fault_of r)
unsent_on are deterministic_only items f (Ok x) old memory is = absurd is
unsent_on {T} are deterministic_only items f (Err y) old memory is =
    subst (λ (z : FaultsRefused). GoesOnWithItems {T = T} are deterministic_only items z.random old old (Err z.fault)) (sym is) (inr (memory, refl))

-- after a fault no mark is reported
pub unwarned : {T : Type 0} (everywhere : Bool) (i i' : InputView) (e : OutputView) (r : Result T FaultsRefused) (x : FaultsRefused) → r ≡ Err x → Warns everywhere i i' e e (fault_of r)
unwarned everywhere i i' e r x is = subst (λ s. Warns everywhere i i' e e (fault_of s)) (sym is) refl

-- the same of a call that asks for an observable, or for none
pub unwarned_of : {T : Type 0} (everywhere : Bool) (observable : Option ℕ) (i i' : InputView) (e : OutputView) (r : Result T FaultsRefused) (x : FaultsRefused) → r ≡ Err x → WarnsOf everywhere observable i i' e e (fault_of r)
unwarned_of everywhere observable i i' e r x is = subst (λ s. WarnsOf everywhere observable i i' e e (fault_of s)) (sym is) refl

-- `check`: memory was refused before anything was written
pub check_unsent : {T : Type 0} (bytes : List ℕ) (o : OutputView) (f : Fault) (r : Result T Fault) → f ≡ whole OutOfMemory → IsErrAnd r (λ y. y ≡ f) → Sends bytes o o r
check_unsent bytes o f (Ok x) memory is = absurd is
check_unsent bytes o f (Err y) memory is = inr (is ∙ memory, took_some_none o bytes)

-- what was not sent whole is passed on
pub check_handed : {T : Type 0} (bytes : List ℕ) (o o' : OutputView) (f : Fault) (r : Result T Fault) → Sends {T = T} bytes o o' (Err f) → IsErrAnd r (λ y. y ≡ f) → Sends bytes o o' r
check_handed bytes o o' f (Ok x) sent is = absurd is
check_handed {T} bytes o o' f (Err y) sent is = subst (λ z. Sends {T = T} bytes o o' (Err z)) (sym is) sent

-- after a fault no mark is reported
pub untold : {T : Type 0} (items : Items) (marks : List DoubtfulMark) (e : OutputView) (r : Result T Fault) (f : Fault) → r ≡ Err f → ReportsIfOk items marks e e r
untold items marks e r f is = subst (λ s. ReportsIfOk items marks e e s) (sym is) refl

-- the marks of a text that was given
pub warned : {T : Type 0} (i i' : InputView) (e e' : OutputView) (items : Items) (r : Result T Fault) → GaveCircuit i i' items → ReportsIfOk items (doubts_of false items) e e' r → Warns false i i' e e' r
warned i i' e e' items (Ok x) gave reports = (items, gave, reports)
warned i i' e e' items (Err f) gave reports = reports
