-- Laws of a distance: how a call goes on that finds none, or finds one and sends it.
use Rattle.stab_commands.proofs.Names.{◌≡◌, refl, sym, ap, subst, ℕ, Bool, List, Result, Ok, Err, IfErr, Option, Some, None, inl, inr, IsErrAnd, OutputView, Fault, Items, DistanceOptions, Random, Distance, SendsFound, FaultsRefused, GoesOnWithItems, fault_of, random_of, HearsDistance, Heard, IsDistanceOf, IsDistanceText, IsRefusedFor, answer_text, SendsAtOnce}
use Rattle.stab_commands.proofs.FoundLaws.{found_at_once}

-- a bit that is not deterministic, or lack of memory, ends the call before anything is written
pub refused_ends : (T : Type 0) (are : List ℕ → Type 0) (deterministic_only : Bool) (items : Items) (u : Option Random) (f : Fault) (old : OutputView) → IsRefusedFor deterministic_only items u f
    → GoesOnWithItems {T = T} are deterministic_only items u old old (Err f)
refused_ends T are deterministic_only items (Some u) f old is = (is.0, is.1, ap Err is.2, refl)
refused_ends T are deterministic_only items None f old is = inr (is, refl)

pub refused_handed : {T : Type 0} (are : List ℕ → Type 0) (deterministic_only : Bool) (items : Items) (e : FaultsRefused) (r : Result T FaultsRefused) (old : OutputView) → IsErrAnd r (λ y. y ≡ e)
    → IsRefusedFor deterministic_only items e.random e.fault → GoesOnWithItems are deterministic_only items (random_of r) old old (fault_of r)
refused_handed are deterministic_only items e (Ok x) old is refused = absurd is
refused_handed {T} are deterministic_only items e (Err y) old is refused =
    subst (λ (x : FaultsRefused). GoesOnWithItems {T = T} are deterministic_only items x.random old old (Err x.fault)) (sym is) (refused_ends T are deterministic_only items e.random e.fault old refused)

-- an answer is sent as bytes like those that report a distance
pub answer_sent : {T : Type 0} (options : DistanceOptions) (items : Items) (d : Distance) (old new : OutputView) (r : Result T Fault) → IsDistanceOf options items d.errors d.answer
    → SendsAtOnce (answer_text options items d.errors d.answer) old new r → SendsFound (IsDistanceText options items) old new r
answer_sent options items d old new r is sent = found_at_once (IsDistanceText options items) old new (answer_text options items d.errors d.answer) r (d.errors, d.answer, is, refl) sent

-- what was heard of a search was heard of a call that ends without an answer after it
pub heard_handed : {T : Type 0} (options : DistanceOptions) (items : Items) (e : FaultsRefused) (r : Result T FaultsRefused) (old new : Option (List Heard)) → IsErrAnd r (λ y. y ≡ e)
    → HearsDistance {T = T} options items old new (Err e.fault) → HearsDistance {T = T} options items old new (fault_of r)
heard_handed options items e (Ok x) old new is heard = absurd is
heard_handed options items e (Err y) old new is heard = heard

-- a call that hands on why there is no answer is refused for the same
pub refused_alike : {T : Type 0} (deterministic_only : Bool) (items : Items) (e : FaultsRefused) (r : Result T FaultsRefused) → IsErrAnd r (λ y. y ≡ e) → IsRefusedFor deterministic_only items e.random e.fault
    → IfErr r (λ x. IsRefusedFor deterministic_only items x.random x.fault)
refused_alike deterministic_only items e (Ok x) is refused = absurd is
refused_alike deterministic_only items e (Err y) is refused = subst (λ (x : FaultsRefused). IsRefusedFor deterministic_only items x.random x.fault) (sym is) refused

-- and nothing was heard of it, if it ended before a search
pub unheard_handed : {T : Type 0} (options : DistanceOptions) (items : Items) (e : FaultsRefused) (r : Result T FaultsRefused) (old : Option (List Heard)) → IsErrAnd r (λ y. y ≡ e)
    → HearsDistance options items old old (fault_of r)
unheard_handed options items e (Ok x) old is = absurd is
unheard_handed options items e (Err y) old is = inl refl
