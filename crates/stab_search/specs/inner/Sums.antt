-- Sums: variables for what errors flip together, and the clauses that say so.
-- Source: this project's own.
use Rattle.std.specs.Prelude.{◌≡◌, ℕ, zero, suc, ◌+◌, ◌<◌, ◌≤◌, ◌^◌, Bool, true, false, ◌&&◌, nat_lt, List, [], ◌∷◌, ◌++◌, length, map, slice_index_or, All}
use Rattle.std.specs.List.{filter, flat_map, range_with_len}
use Rattle.stab_gates.specs.Letters.{◌⊕◌}
use Rattle.stab_parities.specs.OddNumbers.{odd}
use Rattle.stab_search.specs.declared.literal.Literal.{Literal}
use Rattle.stab_search.specs.declared.literal.Literal.TheVariants.{Is, IsNot}
use Rattle.stab_search.specs.declared.sums.Sum.{Sum}
use Rattle.stab_search.specs.declared.sums.Parities.{Parities}

-- the value of a variable; number 0 stands for false
abbrev pub variable_value : (ℕ → Bool) → ℕ → Bool
variable_value a zero = false
variable_value a (suc v) = a (suc v)

-- an assignment has each sum as the sum of its parts
abbrev pub AreSums : (ℕ → Bool) → List Sum → Type 0
AreSums a [] = Unit {0}
AreSums a (s ∷ ss) = (a s.both ≡ a s.left ⊕ a s.right) × AreSums a ss

-- a sum is this variable, and its parts are variables before it
pub record IsSumAt (v : ℕ) (s : Sum) : Type 0 where
  pub both : s.both ≡ v
  pub left : (0 < s.left) × (s.left < v)
  pub right : (0 < s.right) × (s.right < v)

-- sums in order, the first of which is this variable
abbrev pub AreFrom : ℕ → List Sum → Type 0
AreFrom first [] = Unit {0}
AreFrom first (s ∷ ss) = IsSumAt first s × AreFrom (first + 1) ss

-- whether an odd number of the errors that an assignment has flip a detector or observable; v is the variable of the first row
abbrev pub flipped_in_sum : (ℕ → Bool) → (v : ℕ) → List (List ℕ) → ℕ → Bool
flipped_in_sum a v [] i = false
flipped_in_sum a v (is ∷ rows) i = (a v && odd i is) ⊕ flipped_in_sum a (v + 1) rows i

-- the variable for a detector or observable
abbrev pub parity_variable : List ℕ → ℕ → ℕ
parity_variable parities i = slice_index_or parities i 0

-- each parity is what the errors of these rows flip
abbrev pub AreParities : List (List ℕ) → List Sum → List ℕ → Type 0
AreParities rows sums parities = (a : ℕ → Bool) → AreSums a sums → (i : ℕ) → variable_value a (parity_variable parities i) ≡ flipped_in_sum a 1 rows i

-- parities after an error that flips these numbers: its variable is added to theirs
pub record Adds (variable : ℕ) (is : List ℕ) (sums : List Sum) (parities : List ℕ) (sums' : List Sum) (parities' : List ℕ) : Type 0 where
  pub preserved : (a : ℕ → Bool) → AreSums a sums' → AreSums a sums
  pub added : (a : ℕ → Bool) → AreSums a sums' → (i : ℕ) → variable_value a (parity_variable parities' i) ≡ variable_value a (parity_variable parities i) ⊕ (a variable && odd i is)

-- sums from a first variable on, and parities, each of which is a variable that is there or 0
pub record AreBuilt (p : Parities) : Type 0 where
  pub first : p.first < 2 ^ 61
  pub count : length p.sums.items ≤ 2 ^ 60
  pub sums : AreFrom p.first p.sums.items
  pub parities : All (λ v. v < p.first + length p.sums.items) p.parities.items

-- variables other than 0
abbrev pub variables_of : List ℕ → List ℕ
variables_of parities = filter (λ p. nat_lt 0 p) parities

-- a variable is true only if one of these is
abbrev pub one_of : (variable : ℕ) → List ℕ → List Literal
one_of variable others = IsNot variable ∷ map (λ v. Is v) others
