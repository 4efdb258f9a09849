-- Lists of numbers: a fact for each, whether a number is there, and a number put in or taken out.
use Rattle.std.specs.Prelude.{ℕ, Bool, List, [], ◌∷◌, ◌==◌, nat_lt, if◌then◌else◌}
use Rattle.std.specs.List.{list_any}

-- a fact for each number of a list
abbrev pub ForEach : (ℕ → Type 0) → List ℕ → Type 0
ForEach P [] = Unit {0}
ForEach P (x ∷ xs) = P x × ForEach P xs

-- whether a number is in a list
abbrev pub has : ℕ → List ℕ → Bool
has x xs = list_any (λ k. k == x) xs

-- an ascending list with a number put in, in order, or taken out if it is there
abbrev pub toggle : ℕ → List ℕ → List ℕ
toggle g [] = g ∷ []
toggle g (x ∷ xs) = if nat_lt g x then g ∷ x ∷ xs else if x == g then xs else x ∷ toggle g xs
