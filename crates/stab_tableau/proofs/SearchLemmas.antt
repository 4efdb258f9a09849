-- Searching strings: if a property can be decided, some string of n letters has it or none has.
use Rattle.stab_tableau.proofs.Names.{◌≡◌, ℕ, zero, suc, inl, inr, refl, ap, List, [], ◌∷◌, length, arith, Letter, I, X, Y, Z}
use Rattle.std.proofs.Common.{◌⊎◌}

-- it is so or not
abbrev pub Decides : Type 0 → Type 0
Decides P = (P → ⊥) ⊎ P

-- none of the strings of n letters has it
abbrev pub HasNone : ℕ → (List Letter → Type 0) → Type 0
HasNone n P = (p : List Letter) → length p ≡ n → P p → ⊥

-- one of them has it
abbrev pub HasSome : ℕ → (List Letter → Type 0) → Type 0
HasSome n P = (p : List Letter) × (length p ≡ n) × P p

-- strings with a letter before them
abbrev following : Letter → (List Letter → Type 0) → List Letter → Type 0
following l P p = P (l ∷ p)

-- a string after a letter is a string
longer : (n : ℕ) (P : List Letter → Type 0) (l : Letter) → HasSome n (following l P) → HasSome (suc n) P
longer n P l (p, lp, here) = (l ∷ p, ap suc lp, here)

-- the empty string is the one of no letters
none-empty : (P : List Letter → Type 0) → (P [] → ⊥) → HasNone zero P
none-empty P none [] lp here = none here
none-empty P none (l ∷ p) lp here = omega (arith, lp)

-- a string of more letters has one of the four first
none-longer : (n : ℕ) (P : List Letter → Type 0) → HasNone n (following I P) → HasNone n (following X P) → HasNone n (following Y P) → HasNone n (following Z P)
    → HasNone (suc n) P
none-longer n P i x y z [] lp here = omega (arith, lp)
none-longer n P i x y z (I ∷ p) lp here = i p (omega (arith, lp)) here
none-longer n P i x y z (X ∷ p) lp here = x p (omega (arith, lp)) here
none-longer n P i x y z (Y ∷ p) lp here = y p (omega (arith, lp)) here
none-longer n P i x y z (Z ∷ p) lp here = z p (omega (arith, lp)) here

by_letters : (n : ℕ) (P : List Letter → Type 0)
    → HasNone n (following I P) ⊎ HasSome n (following I P) → HasNone n (following X P) ⊎ HasSome n (following X P)
    → HasNone n (following Y P) ⊎ HasSome n (following Y P) → HasNone n (following Z P) ⊎ HasSome n (following Z P)
    → HasNone (suc n) P ⊎ HasSome (suc n) P
by_letters n P (inr i) x y z = inr (longer n P I i)
by_letters n P (inl i) (inr x) y z = inr (longer n P X x)
by_letters n P (inl i) (inl x) (inr y) z = inr (longer n P Y y)
by_letters n P (inl i) (inl x) (inl y) (inr z) = inr (longer n P Z z)
by_letters n P (inl i) (inl x) (inl y) (inl z) = inl (none-longer n P i x y z)

by_empty : (P : List Letter → Type 0) → Decides (P []) → HasNone zero P ⊎ HasSome zero P
by_empty P (inl none) = inl (none-empty P none)
by_empty P (inr here) = inr ([], refl, here)

-- every string is tried
pub search : (n : ℕ) (P : List Letter → Type 0) → ((p : List Letter) → Decides (P p)) → HasNone n P ⊎ HasSome n P
search zero P decide = by_empty P (decide [])
search (suc n) P decide =
    by_letters n P (search n (following I P) (λ p. decide (I ∷ p))) (search n (following X P) (λ p. decide (X ∷ p)))
    (search n (following Y P) (λ p. decide (Y ∷ p))) (search n (following Z P) (λ p. decide (Z ∷ p)))
