-- Coordinates are read as they are written.
use Rattle.stab_circuit.proofs.Names.{◌≡◌, ℕ, Bool, true, false, ◌&&◌, List, [], ◌∷◌, Ok, Err, refl, ap, ◌∙◌, list_all, BadArguments, ◌>>=◌, each, coordinate_of, is_coordinate}
use Rattle.stab_instructions.proofs.BoolLemmas.{chosen, passed, and_left, and_right}

coordinate_read : (c : List ℕ) → is_coordinate c ≡ true → coordinate_of c ≡ Ok c
unfolding coordinate_of
coordinate_read c h = chosen (is_coordinate c) _ _ h

coordinate_refused : (c : List ℕ) → is_coordinate c ≡ false → coordinate_of c ≡ Err BadArguments
unfolding coordinate_of
coordinate_refused c h = passed (is_coordinate c) _ _ h

-- if each is written as one, all are read as they are
pub each_coordinate : (cs : List (List ℕ)) → list_all is_coordinate cs ≡ true → each coordinate_of cs ≡ Ok cs
each_coordinate [] h = refl
each_coordinate (c ∷ cs) h =
    ap (λ r. r >>= λ first. each coordinate_of cs >>= λ rest. Ok (first ∷ rest)) (coordinate_read c (and_left (is_coordinate c) (list_all is_coordinate cs) h))
    ∙ ap (λ r. r >>= λ rest. Ok (c ∷ rest)) (each_coordinate cs (and_right (is_coordinate c) (list_all is_coordinate cs) h))

refused_case : (c : List ℕ) (cs : List (List ℕ)) (b : Bool) → is_coordinate c ≡ b → (b && list_all is_coordinate cs) ≡ false → (list_all is_coordinate cs ≡ false → each coordinate_of cs ≡ Err BadArguments)
    → each coordinate_of (c ∷ cs) ≡ Err BadArguments
refused_case c cs true e h more =
    ap (λ r. r >>= λ first. each coordinate_of cs >>= λ rest. Ok (first ∷ rest)) (coordinate_read c e) ∙ ap (λ r. r >>= λ rest. Ok (c ∷ rest)) (more h)
refused_case c cs false e h more = ap (λ r. r >>= λ first. each coordinate_of cs >>= λ rest. Ok (first ∷ rest)) (coordinate_refused c e)

-- if one is not, they are refused
pub no_coordinate : (cs : List (List ℕ)) → list_all is_coordinate cs ≡ false → each coordinate_of cs ≡ Err BadArguments
no_coordinate [] h = cc
no_coordinate (c ∷ cs) h = refused_case c cs (is_coordinate c) refl h (no_coordinate cs)
