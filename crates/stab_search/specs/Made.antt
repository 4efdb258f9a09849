-- Clauses of a problem: those that a value of `Problem` stands for.
-- Source: this project's own.
use Rattle.std.specs.Prelude.{◌+◌, ◌<◌, ◌≤◌, ◌^◌, ℕ, List, [], ◌∷◌, ◌++◌, length, map}
use Rattle.std.specs.List.{flat_map, range_with_len}
use Rattle.stab_search.specs.declared.literal.Literal.{Literal}
use Rattle.stab_search.specs.declared.literal.Literal.TheVariants.{Is, IsNot}
use Rattle.stab_search.specs.declared.sums.Sum.{Sum}
use Rattle.stab_search.specs.declared.problem.Problem.{Problem}
use Rattle.stab_search.specs.Problems.{Clauses}
use Rattle.stab_search.specs.Questions.{without}

-- the clauses of a sum
abbrev pub sum_clauses : Sum → List (List Literal)
sum_clauses s =
    (IsNot s.left ∷ IsNot s.right ∷ IsNot s.both ∷ [])
    ∷ (Is s.left ∷ Is s.right ∷ IsNot s.both ∷ [])
    ∷ (Is s.left ∷ IsNot s.right ∷ Is s.both ∷ [])
    ∷ (IsNot s.left ∷ Is s.right ∷ Is s.both ∷ []) ∷ []

-- a variable is false
abbrev pub is_false : ℕ → List Literal
is_false v = IsNot v ∷ []

-- the problem: variables 1 to `errors` are the errors, the next one says that an observable is flipped, and the others are sums
abbrev pub clauses_of : Problem → Clauses
clauses_of p = record {
  variables = p.errors + 1 + length p.sums.items;
  soft = map without (range_with_len 0 p.errors);
  hard = flat_map sum_clauses p.sums.items ++ (map is_false p.undetected.items ++ (Is (p.errors + 1) ∷ []) ∷ p.observed.items ∷ []);
}

-- the clauses of a problem can be counted
pub record IsCountable (p : Problem) : Type 0 where
  pub errors : p.errors < 2 ^ 60
  pub sums : length p.sums.items ≤ 2 ^ 60
  pub undetected : length p.undetected.items < 2 ^ 60
