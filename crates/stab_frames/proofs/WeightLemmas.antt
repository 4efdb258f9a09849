-- Weights: what a letter put at a position makes of one, and strings of weight 0.
use Rattle.stab_frames.proofs.Names.{◌≡◌, ℕ, zero, suc, ◌+◌, ◌<◌, ◌≤◌, refl, ap, List, [], ◌∷◌, length, replicate, get_or, set, arith, Letter, I, X, Y, Z, letter_weight, string_weight}

pub weight-set : (letters : List Letter) (q : ℕ) (l : Letter) → q < length letters
    → string_weight (set letters q l) + letter_weight (get_or letters q I) ≡ string_weight letters + letter_weight l
weight-set [] q l lt = absurd (omega arith)
weight-set (x ∷ letters) zero l lt = omega arith
weight-set (x ∷ letters) (suc q) l lt = let e = weight-set letters q l (omega arith) in omega (arith, e)

pub weight-letter : (letters : List Letter) (q : ℕ) → letter_weight (get_or letters q I) ≤ string_weight letters
weight-letter [] q = omega arith
weight-letter (x ∷ letters) zero = omega arith
weight-letter (x ∷ letters) (suc q) = let e = weight-letter letters q in omega (arith, e)

pub letter-light : (l : Letter) → letter_weight l ≤ 1
letter-light I = omega arith
letter-light X = omega arith
letter-light Y = omega arith
letter-light Z = omega arith

pub weight-length : (letters : List Letter) → string_weight letters ≤ length letters
weight-length [] = omega arith
weight-length (x ∷ letters) = let e = weight-length letters in omega (arith, e, letter-light x)

pub weight-blank : (n : ℕ) → string_weight (replicate n I) ≡ 0
weight-blank zero = refl
weight-blank (suc n) = let e = weight-blank n in omega (arith, e)

pub weight-none : (letters : List Letter) → string_weight letters ≡ 0 → letters ≡ replicate (length letters) I
weight-none [] e = refl
weight-none (I ∷ letters) e = ap (λ w. I ∷ w) (weight-none letters (omega (arith, e)))
weight-none (X ∷ letters) e = absurd (omega (arith, e))
weight-none (Y ∷ letters) e = absurd (omega (arith, e))
weight-none (Z ∷ letters) e = absurd (omega (arith, e))
