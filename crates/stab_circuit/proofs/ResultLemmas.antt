-- Results that follow one another.
use Rattle.stab_circuit.proofs.Names.{◌≡◌, List, [], ◌∷◌, ◌++◌, Result, Ok, Err, refl, sym, ap, ◌∙◌, append_assoc, append-nil, ◌>>=◌, each}

-- a list that follows another
abbrev pub following : {X E : Type 0} → List X → Result (List X) E → Result (List X) E
following front given = given >>= λ more. Ok (front ++ more)

-- nothing more
pub after_none : {X E : Type 0} (front : List X) → following {X = X} {E = E} front (Ok []) ≡ Ok front
after_none front = ap Ok (append-nil front)

after_more : {X E : Type 0} (front : List X) (x : X) (given : Result (List X) E) → following front (given >>= λ rest. Ok (x ∷ rest)) ≡ following (front ++ x ∷ []) given
after_more front x (Ok rest) = ap Ok (sym (append_assoc front (x ∷ []) rest))
after_more front x (Err e) = refl

-- one element more
pub after_next : {A X E : Type 0} (f : A → Result X E) (front : List X) (a : A) (more : List A) (x : X) → f a ≡ Ok x → following front (each f (a ∷ more)) ≡ following (front ++ x ∷ []) (each f more)
after_next f front a more x e = ap (λ r. following front (r >>= λ first. each f more >>= λ rest. Ok (first ∷ rest))) e ∙ after_more front x (each f more)
