use Rattle.stab_search.proofs.Names.{ℕ, List, subst, below_more, AreParts}
use Rattle.stab_search.proofs.enough_errors.all_split.Goals as goal

pub rows-preserved : goal.rows-preserved
rows-preserved c =
    below_more _ _ c.rows.invariant (
      c.as_slice.result.now,
      subst (λ (is : List ℕ). AreParts c.args.retained.now.table c.args.classes.now is c.as_slice.result.now) c.row-numbers.ensures.value
          (c.in_ok-are_parts.ensures.yes c.if-not-branch.false),
    )
