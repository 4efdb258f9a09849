-- Parts of the steps of an instruction.
use Rattle.stab_items.proofs.Names.{◌≡◌, ℕ, ◌+◌, zero, suc, refl, sym, ◌∙◌, ap, subst, arith, List, [], ◌∷◌, ◌++◌, length, take, drop, map, None, Some, slice_get, take-map, drop-map, drop-drop, Step}

cut : {X : Type 0} (n : ℕ) (xs : List X) → xs ≡ take n xs ++ drop (length (take n xs)) xs
cut zero xs = refl
cut (suc n) [] = refl
cut (suc n) (x ∷ xs) = ap (λ ys. x ∷ ys) (cut n xs)

-- the steps of targets from a position on begin with those of a part of the targets
pub part-steps : {X : Type 0} (f : X → Step) (xs seen part : List X) (position most : ℕ) (steps : List Step) → steps ≡ map f xs → seen ≡ xs → part ≡ take most (drop position seen)
    → drop position steps ≡ map f part ++ drop (position + length (map f part)) steps
part-steps f xs seen part position most steps is same e =
    let ys = drop position (map f xs) in
    let front : take most ys ≡ map f part =
    ap (take most) (drop-map f position xs) ∙ take-map f most (drop position xs) ∙ ap (map f) (sym (e ∙ ap (λ zs. take most (drop position zs)) same)) in
    subst (λ zs. drop position zs ≡ map f part ++ drop (position + length (map f part)) zs) (sym is)
    (cut most ys
    ∙ ap (λ p. p ++ drop (length p) ys) front
    ∙ ap (λ rest. map f part ++ rest) (drop-drop (length (map f part)) position (map f xs)))

-- the steps of an instruction from a position on
pub none_given : (l : List Step) (n : ℕ) → None ≡ slice_get l n → drop n l ≡ []
none_given [] zero e = refl
none_given [] (suc n) e = refl
none_given (s ∷ l) zero e = absurd (cc)
none_given (s ∷ l) (suc n) e = none_given l n e

pub some_given : (l : List Step) (n : ℕ) (s : Step) → Some s ≡ slice_get l n → drop n l ≡ s ∷ drop (n + 1) l
some_given [] n s e = absurd (cc)
some_given (r ∷ l) zero s e = let same : r ≡ s = cc in ap (λ x. x ∷ l) same
some_given (r ∷ l) (suc n) s e = let next' : suc n + 1 ≡ suc (n + 1) = omega arith in some_given l n s e ∙ ap (λ k. s ∷ drop k (r ∷ l)) (sym next')
