-- The first letters of a string, and letters I after them.
use Rattle.stab_tableau.proofs.Names.{◌≡◌, ℕ, zero, suc, ◌<◌, ◌≤◌, true, refl, ap, List, [], ◌∷◌, length, get_or, set, arith, Letter, I, X, Y, Z, diagonal, blank}

-- the first k letters of a string, and letters I after them
abbrev pub front : ℕ → List Letter → List Letter
front k [] = []
front zero (l ∷ p) = I ∷ front zero p
front (suc k) (l ∷ p) = l ∷ front k p

pub length-front : (k : ℕ) (p : List Letter) → length (front k p) ≡ length p
length-front k [] = refl
length-front zero (l ∷ p) = ap suc (length-front zero p)
length-front (suc k) (l ∷ p) = ap suc (length-front k p)

pub front-before : (k : ℕ) (p : List Letter) (q : ℕ) → q < k → get_or (front k p) q I ≡ get_or p q I
front-before k [] q lt = refl
front-before zero (l ∷ p) q lt = absurd (omega arith)
front-before (suc k) (l ∷ p) zero lt = refl
front-before (suc k) (l ∷ p) (suc q) lt = front-before k p q (omega arith)

pub front-following : (k : ℕ) (p : List Letter) (q : ℕ) → k ≤ q → get_or (front k p) q I ≡ I
front-following k [] q le = refl
front-following zero (l ∷ p) zero le = refl
front-following zero (l ∷ p) (suc q) le = front-following zero p q (omega arith)
front-following (suc k) (l ∷ p) zero le = absurd (omega arith)
front-following (suc k) (l ∷ p) (suc q) le = front-following k p q (omega arith)

pub front-none : (p : List Letter) → front zero p ≡ blank (length p)
front-none [] = refl
front-none (l ∷ p) = ap (λ q. I ∷ q) (front-none p)

-- one letter more
pub front-more : (k : ℕ) (p : List Letter) → front (suc k) p ≡ set (front k p) k (get_or p k I)
front-more k [] = refl
front-more zero (l ∷ p) = refl
front-more (suc k) (l ∷ p) = ap (λ q. l ∷ q) (front-more k p)

pub front-all : (k : ℕ) (p : List Letter) → length p ≤ k → front k p ≡ p
front-all k [] le = refl
front-all zero (l ∷ p) le = absurd (omega arith)
front-all (suc k) (l ∷ p) le = ap (λ q. l ∷ q) (front-all k p (omega arith))

pub front-diagonal : (k : ℕ) (p : List Letter) → diagonal p ≡ true → diagonal (front k p) ≡ true
front-diagonal k [] d = refl
front-diagonal zero (I ∷ p) d = front-diagonal zero p d
front-diagonal zero (Z ∷ p) d = front-diagonal zero p d
front-diagonal zero (X ∷ p) d = cc
front-diagonal zero (Y ∷ p) d = cc
front-diagonal (suc k) (I ∷ p) d = front-diagonal k p d
front-diagonal (suc k) (Z ∷ p) d = front-diagonal k p d
front-diagonal (suc k) (X ∷ p) d = cc
front-diagonal (suc k) (Y ∷ p) d = cc
