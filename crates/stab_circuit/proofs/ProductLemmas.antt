-- Products: whether a qubit occurs twice.
use Rattle.stab_circuit.proofs.Names.{◌≡◌, ◌<◌, ℕ, ◌+◌, zero, suc, true, ◌||◌, List, [], ◌∷◌, length, drop, get_or, ap, ◌∙◌, arith, drop-cons, Factor, is_on, names_twice, or_right, or_left}

-- from a position on: that factor's qubit among the later ones, or one of these
pub twice_from : (fs : List Factor) (i : ℕ) (d : Factor) → i < length fs → names_twice (drop i fs) ≡ (is_on (get_or fs i d).qubit (drop (i + 1) fs) || names_twice (drop (i + 1) fs))
twice_from fs i d h =
    let next' : suc i ≡ i + 1 = omega arith in
    ap names_twice (drop-cons fs i d h) ∙ ap (λ n. is_on (get_or fs i d).qubit (drop n fs) || names_twice (drop n fs)) next'

-- what occurs twice from a position on occurs twice
pub twice_before : (i : ℕ) (fs : List Factor) → names_twice (drop i fs) ≡ true → names_twice fs ≡ true
twice_before zero [] e = e
twice_before zero (f ∷ fs) e = e
twice_before (suc i) [] e = e
twice_before (suc i) (f ∷ fs) e = or_right (is_on f.qubit fs) (names_twice fs) (twice_before i fs e)

-- a qubit that occurs again after its factor
pub twice_found : (fs : List Factor) (i : ℕ) (d : Factor) → i < length fs → is_on (get_or fs i d).qubit (drop (i + 1) fs) ≡ true → names_twice fs ≡ true
twice_found fs i d h e =
    twice_before i fs (twice_from fs i d h ∙ or_left (is_on (get_or fs i d).qubit (drop (i + 1) fs)) (names_twice (drop (i + 1) fs)) e)
