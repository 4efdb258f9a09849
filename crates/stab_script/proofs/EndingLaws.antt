-- Laws of endings: what the parts of an edit command pass on makes its end.
use Rattle.stab_script.proofs.Names.{◌≡◌, refl, subst, Bool, List, ℕ, Option, Result, Ok, Err, ap, ◌⊎◌, inl, inr, InputView, OutputView, Fault, Items, GaveCircuit, Source, Asked, TakesTurns, EditsInTurn, EndsOn, EndsEdit, environment_of, qubits_for, Environment, coins_of_shot, false, Held, Request, Answer, IsAnswer, IsPlainAnswer, IsAnswerToAll, held_at_first, begin, put, delete, show, ask, deterministic, distance, refuse, EndsEditBy, EndsPlainEdit}

-- what requests are answered on items in an environment
abbrev answered_in : Environment → Items → List Request → Answer → Type 0
answered_in environment items requests a = IsAnswerToAll environment (held_at_first environment items) requests a

-- A call that went on with a script.
edit_ends : (counted : Bool) (qubits : Option ℕ) (source : Source) (i i' s s' : InputView) (o o' : OutputView) (items : Items) (r : Result Bool Fault)
    → GaveCircuit i i' items → EndsOn (answered_in (environment_of counted qubits source items) items) (qubits_for qubits items) items s s' o o' r → EndsEdit counted qubits source i i' s s' o o' r
edit_ends counted qubits source i i' s s' o o' items (Ok refused) gave ends = (items, gave, ends)
edit_ends counted qubits source i i' s s' o o' items (Err f) gave ends = inr (items, gave, ends)

-- The same, by its own number of qubits and coins.
pub edit_ended : (counted : Bool) (qubits : Option ℕ) (source : Source) (i i' s s' : InputView) (o o' : OutputView) (items : Items) (r : Result Bool Fault) (n : ℕ) (coins : ℕ → Bool)
    → GaveCircuit i i' items → n ≡ qubits_for qubits items → coins ≡ coins_of_shot source 0
    → EndsOn (answered_in (record { counted = counted; qubits = n; coins = coins }) items) n items s s' o o' r → EndsEdit counted qubits source i i' s s' o o' r
edit_ended counted qubits source i i' s s' o o' items r n coins gave is_n is_coins ends =
    edit_ends counted qubits source i i' s s' o o' items r gave
    (subst (λ (x : Environment). EndsOn (answered_in x items) x.qubits items s s' o o' r) (λ j. record { counted = counted; qubits = is_n j; coins = is_coins j }) ends)

-- And a call that read a script in turn, or left script and output as they were.
pub edit_negated : {S O : Type 0} (script_seen : S → InputView) (out_seen : O → OutputView) (log : S → Option (List Asked)) (counted : Bool) (qubits : Option ℕ) (source : Source) (i i' : InputView) (x x' : S) (y y' : O) (items : Items) (r : Result Bool Fault)
    (n : ℕ) (coins : ℕ → Bool) → GaveCircuit i i' items → n ≡ qubits_for qubits items → coins ≡ coins_of_shot source 0
    → ((x' ≡ x) × (y' ≡ y)) ⊎ TakesTurns (record { counted = counted; qubits = n; coins = coins }) items (script_seen x) (script_seen x') (out_seen y) (out_seen y') (log x) (log x') r
    → EditsInTurn counted qubits source i i' (script_seen x) (script_seen x') (out_seen y) (out_seen y') (log x) (log x') r
edit_negated script_seen out_seen log counted qubits source i i' x x' y y' items r n coins gave is_n is_coins (inl same) = inl (ap script_seen same.0, ap out_seen same.1, ap log same.0)
edit_negated script_seen out_seen log counted qubits source i i' x x' y y' items r n coins gave is_n is_coins (inr turns) =
    inr (
      items,
      gave,
      subst (λ (environment : Environment). TakesTurns environment items (script_seen x) (script_seen x') (out_seen y) (out_seen y') (log x) (log x') r)
          (λ j. record { counted = counted; qubits = is_n j; coins = is_coins j }) turns,
    )

-- A script that is not counted is answered plainly.
plain_answer : (n : ℕ) (coins : ℕ → Bool) (held : Held) (r : Request) (a : Answer)
    → IsAnswer (record { counted = false; qubits = n; coins = coins }) held r a ≡ IsPlainAnswer (record { counted = false; qubits = n; coins = coins }) held r a
plain_answer n coins held begin a = refl
plain_answer n coins held (put how place text) a = refl
plain_answer n coins held (delete place) a = refl
plain_answer n coins held (show what) a = refl
plain_answer n coins held (ask request) a = refl
plain_answer n coins held deterministic a = refl
plain_answer n coins held (distance everywhere most) a = refl
plain_answer n coins held (refuse e) a = refl

-- So a call of `edit` for one ends as is said of it.
pub plain_ends : (qubits : Option ℕ) (source : Source) (i i' s s' : InputView) (o o' : OutputView) (r : Result Bool Fault) → EndsEdit false qubits source i i' s s' o o' r → EndsPlainEdit qubits source i i' s s' o o' r
plain_ends qubits source i i' s s' o o' r ends =
    subst (λ t. t) (λ j. EndsEditBy (λ environment held request a. plain_answer environment.qubits environment.coins held request a j) false qubits source i i' s s' o o' r) ends
