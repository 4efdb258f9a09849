-- Equal lists: those that a comparison finds equal.
use Rattle.stab_search.proofs.Names.{◌≡◌, ℕ, true, List, [], ◌∷◌, eqb, pointwise, eqb-true, false≢true, and_parts}

pub pointwise-true : (xs ys : List ℕ) → pointwise eqb xs ys ≡ true → xs ≡ ys
pointwise-true [] [] e = λ i. []
pointwise-true [] (y ∷ ys) e = absurd (false≢true e)
pointwise-true (x ∷ xs) [] e = absurd (false≢true e)
pointwise-true (x ∷ xs) (y ∷ ys) e =
    let parts = and_parts (eqb x y) (pointwise eqb xs ys) e in
    let here = eqb-true x y parts.0 in
    let later = pointwise-true xs ys parts.1 in
    λ i. here i ∷ later i
