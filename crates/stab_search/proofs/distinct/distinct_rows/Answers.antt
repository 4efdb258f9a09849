use Rattle.stab_search.proofs.Names.{ℕ, ◌<◌, List, length, subst, row, HasRow}
use Rattle.stab_search.proofs.distinct.distinct_rows.Goals as goal

pub returns-clause-all : goal.returns-clause-all
returns-clause-all c =
    subst (λ (xs : List (List ℕ)). (r : ℕ) → r < length xs → HasRow c.in_ok-distinct.distinct.rows.items (row xs r)) c.rows-2.ensures.value c.in_ok-distinct.ensures.all
