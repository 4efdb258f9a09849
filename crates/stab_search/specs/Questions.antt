-- Questions: the problem of a table of errors, whose solution is a shortest logical error.
-- Source: this project's own.
use Rattle.std.specs.Prelude.{◌≡◌, ℕ, ◌+◌, Bool, true, List, [], ◌∷◌, length, map, All}
use Rattle.std.specs.List.{filter, range_with_len}
use Rattle.stab_parities.specs.Ascending.{IsAscending}
use Rattle.stab_search.specs.LogicalErrors.{IsLogicalError}
use Rattle.stab_search.specs.Tables.{ErrorTable}
use Rattle.stab_search.specs.declared.literal.Literal.{Literal}
use Rattle.stab_search.specs.declared.literal.Literal.TheVariants.{IsNot}
use Rattle.stab_search.specs.Problems.{Clauses, IsVariableWithin, meets}

-- the clause that an assignment breaks if it has the error of a number: error k is variable k + 1
abbrev pub without : ℕ → List Literal
without k = IsNot (k + 1) ∷ []

-- the errors that an assignment has, of this many
abbrev pub errors_in : (ℕ → Bool) → ℕ → List ℕ
errors_in a count = filter (λ k. a (k + 1)) (range_with_len 0 count)

-- what a problem asks of a table: each of its errors breaks one clause; an assignment that meets the hard clauses has a logical error, and
-- each logical error is that of one
pub record Asks (t : ErrorTable) (p : Clauses) : Type 0 where
  pub within : All (All (IsVariableWithin p.variables)) p.hard
  pub soft : p.soft ≡ map without (range_with_len 0 (length t.rows))
  pub sound : (a : ℕ → Bool) → meets a p.hard ≡ true → IsLogicalError t (errors_in a (length t.rows))
  pub complete : (errors : List ℕ) → IsAscending errors → IsLogicalError t errors → (a : ℕ → Bool) × (meets a p.hard ≡ true) × (errors_in a (length t.rows) ≡ errors)
