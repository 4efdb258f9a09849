use Rattle.stab_search.proofs.Names.{sym, ◌∙◌}
use Rattle.stab_search.proofs.IndexLemmas.{listed-at, listed-past}
use Rattle.stab_search.proofs.index.rows_at.Goals as goal

pub returns-then-position-index : goal.returns-then-position-index
returns-then-position-index c = record { value = c.as_slice.ensures.value ∙ listed-at c.args.index.now c.args.position c.index-index-position.result c.if-position-index.true c.index-index-position.is }

pub returns-else-position-index : goal.returns-else-position-index
returns-else-position-index c = record { value = sym (listed-past c.args.index.now c.args.position c.if-position-index.false) }
