-- Results: steps that follow one another, any of which may be refused, and how a call's answer meets them.
-- Source: this project's own.
use Rattle.std.specs.Prelude.{◌≡◌, List, [], ◌∷◌, Result, Ok, Err, ◌⊎◌}
use Rattle.stab_io.specs.declared.refusal.Refusal.{Refusal}
use Rattle.stab_io.specs.declared.refusal.Refusal.TheVariants.{OutOfMemory}

infixl 10 ◌>>=◌
-- the second result, made of the first, or the first one's refusal
abbrev pub ◌>>=◌ : {E A B : Type 0} → Result A E → (A → Result B E) → Result B E
(Ok x) >>= f = f x
(Err e) >>= f = Err e

-- what f makes of each element, from left to right, or its first refusal
abbrev pub each : {A X E : Type 0} → (A → Result X E) → List A → Result (List X) E
each f [] = Ok []
each f (a ∷ more) = f a >>= λ first. each f more >>= λ rest. Ok (first ∷ rest)

-- the call gave what the definition gives, or failed as it does, or for lack of memory
abbrev pub Gives : {X : Type 0} → Result X Refusal → Result X Refusal → Type 0
Gives (Ok x) given = given ≡ Ok x
Gives (Err r) given = (r ≡ OutOfMemory) ⊎ (given ≡ Err r)
