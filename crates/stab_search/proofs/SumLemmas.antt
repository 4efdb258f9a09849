-- Sums: assignments that have them, and how they are added at the end.
use Rattle.stab_search.proofs.Names.{◌≡◌, ℕ, zero, suc, ◌+◌, ◌<◌, ◌⊎◌, inl, inr, refl, sym, ◌∙◌, subst, ap, arith, Bool, true, false, List, [], ◌∷◌, ◌++◌, length, ◌&&◌, ◌==◌, cond, ne_eqb, eq-eqb, ◌⊕◌, Sum, AreSums, IsSumAt, AreFrom, variable_value}

-- a variable's value, if it is not 0
pub value-there : (a : ℕ → Bool) (v : ℕ) → 0 < v → variable_value a v ≡ a v
value-there a zero less = absurd (omega (arith, less))
value-there a (suc v) less = refl

-- the sums before the last, and the last
pub sums-front : (a : ℕ → Bool) (sums : List Sum) (s : Sum) → AreSums a (sums ++ s ∷ []) → AreSums a sums
sums-front a [] s are = tt
sums-front a (x ∷ xs) s are = (are.0, sums-front a xs s are.1)

pub sums-last : (a : ℕ → Bool) (sums : List Sum) (s : Sum) → AreSums a (sums ++ s ∷ []) → a s.both ≡ a s.left ⊕ a s.right
sums-last a [] s are = are.0
sums-last a (x ∷ xs) s are = sums-last a xs s are.1

-- one more sum
pub from-push : (first : ℕ) (sums : List Sum) (s : Sum) → AreFrom first sums → IsSumAt (first + length sums) s → AreFrom first (sums ++ s ∷ [])
from-push first [] s are is = (subst (λ v. IsSumAt v s) (omega arith) is, tt)
from-push first (x ∷ xs) s are is = (are.0, from-push (first + 1) xs s are.1 (subst (λ v. IsSumAt v s) (omega arith) is))

-- an assignment with the value of one variable changed
pub changed : (ℕ → Bool) → ℕ → Bool → ℕ → Bool
changed a v b w = cond (w == v) b (a w)

changed-here : (a : ℕ → Bool) (v : ℕ) (b : Bool) → changed a v b v ≡ b
unfolding changed
changed-here a v b = ap (λ t. cond t b (a v)) (eq-eqb v v refl)

changed-below : (a : ℕ → Bool) (v : ℕ) (b : Bool) (w : ℕ) → w < v → changed a v b w ≡ a w
unfolding changed
changed-below a v b w less = ap (λ t. cond t b (a w)) (ne_eqb w v (omega (arith, less)))

-- an assignment with the values that sums have
pub extended : (ℕ → Bool) → List Sum → ℕ → Bool
extended a [] = a
extended a (s ∷ ss) = extended (changed a s.both (a s.left ⊕ a s.right)) ss

-- variables before the first sum keep their values
pub extended-below : (a : ℕ → Bool) (first : ℕ) (sums : List Sum) (w : ℕ) → AreFrom first sums → w < first → extended a sums w ≡ a w
unfolding extended
extended-below a first [] w are less = refl
extended-below a first (s ∷ ss) w are less =
    extended-below (changed a s.both (a s.left ⊕ a s.right)) (first + 1) ss w are.1 (omega (arith, less))
    ∙ changed-below a s.both (a s.left ⊕ a s.right) w (subst (λ v. w < v) (sym are.0.both) less)

-- it has each sum
pub extended-sums : (a : ℕ → Bool) (first : ℕ) (sums : List Sum) → AreFrom first sums → AreSums (extended a sums) sums
unfolding extended
extended-sums a first [] are = tt
extended-sums a first (s ∷ ss) are =
    let b = a s.left ⊕ a s.right in
    let c = changed a s.both b in
    let of : (w : ℕ) → w < first + 1 → extended c ss w ≡ c w = λ w less. extended-below c (first + 1) ss w are.1 less in
    let here : extended c ss s.both ≡ b = of s.both (rw are.0.both (omega arith)) ∙ changed-here a s.both b in
    let left : extended c ss s.left ≡ a s.left = of s.left (omega (arith, are.0.left.1)) ∙ changed-below a s.both b s.left (rw are.0.both are.0.left.1) in
    let right : extended c ss s.right ≡ a s.right = of s.right (omega (arith, are.0.right.1)) ∙ changed-below a s.both b s.right (rw are.0.both are.0.right.1) in
    (here ∙ sym (ap (λ x. x ⊕ extended c ss s.right) left ∙ ap (λ x. a s.left ⊕ x) right), extended-sums c (first + 1) ss are.1)
