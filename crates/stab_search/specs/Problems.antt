-- Problems: clauses over variables that are true or false, and their text in the format `p wcnf`.
-- Source: the MaxSAT Evaluations, weighted problems with a top weight.
use Rattle.std.specs.Prelude.{◌≡◌, ℕ, ◌+◌, ◌<◌, ◌≤◌, Bool, not, List, ◌++◌, length, codes, decimal}
use Rattle.std.specs.List.{flat_map, list_all, list_any}
use Rattle.stab_search.specs.declared.literal.Literal.{Literal}
use Rattle.stab_search.specs.declared.literal.Literal.TheVariants.{Is, IsNot}

-- a problem: how many variables, counted from 1; clauses that an assignment may break, and clauses that it has to meet
pub record Clauses : Type 0 where
  pub variables : ℕ
  pub soft : List (List Literal)
  pub hard : List (List Literal)

-- whether a literal holds for an assignment
abbrev pub holds : (ℕ → Bool) → Literal → Bool
holds a (Is v) = a v
holds a (IsNot v) = not (a v)

-- whether an assignment meets each of these clauses, by one of its literals
abbrev pub meets : (ℕ → Bool) → List (List Literal) → Bool
meets a clauses = list_all (list_any (holds a)) clauses

-- a literal's variable is one of this many
abbrev pub IsVariableWithin : ℕ → Literal → Type 0
IsVariableWithin variables (Is v) = (0 < v) × (v ≤ variables)
IsVariableWithin variables (IsNot v) = (0 < v) × (v ≤ variables)

-- a literal, after a space: a variable, or minus it
abbrev pub literal_text : Literal → List ℕ
literal_text (Is v) = codes " " ++ decimal v
literal_text (IsNot v) = codes " -" ++ decimal v

-- the line of a clause
abbrev pub clause_text : (weight : ℕ) → List Literal → List ℕ
clause_text weight clause = decimal weight ++ (flat_map literal_text clause ++ codes " 0\n")

-- the first line: how many variables and clauses there are, and the weight of clauses that have to be met
abbrev pub problem_head : (variables clauses top : ℕ) → List ℕ
problem_head variables clauses top = codes "p wcnf " ++ (decimal variables ++ (codes " " ++ (decimal clauses ++ (codes " " ++ (decimal top ++ codes "\n")))))

-- the text: a clause that may be broken has weight 1, and one that has to be met weighs more than all of those
abbrev pub problem_text : Clauses → List ℕ
problem_text p =
    problem_head p.variables (length p.soft + length p.hard) (length p.soft + 1)
    ++ (flat_map (clause_text 1) p.soft ++ flat_map (clause_text (length p.soft + 1)) p.hard)
