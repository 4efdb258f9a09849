-- Strings: whether two differ, and their letters, from one qubit to the next.
use Rattle.stab_ways.proofs.Names.{◌≡◌, ℕ, refl, Bool, true, false, ◌||◌, List, ◌++◌, drop, Letter, differ, PlacedLetter, placed}

or-false : (b : Bool) → b ≡ (b || false)
or-false true = refl
or-false false = refl

or-more : (a b c : Bool) → (a || (b || c)) ≡ ((a || b) || c)
or-more true b c = refl
or-more false b c = refl

-- strings differ if they do up to a qubit, or from there on
abbrev pub DifferBy : List Letter → List Letter → ℕ → Bool → Type 0
DifferBy old new q found = differ old new ≡ (found || differ (drop q old) (drop q new))

-- letters in two parts

abbrev pub AreFound : List Letter → ℕ → List PlacedLetter → Type 0
AreFound letters q found = placed 0 letters ≡ found ++ placed q (drop q letters)
