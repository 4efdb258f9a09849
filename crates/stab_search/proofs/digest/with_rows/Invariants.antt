use Rattle.stab_search.proofs.Names.{◌≡◌, drop}
use Rattle.stab_search.specs.SearchParts.{digest_rows}
use Rattle.stab_search.proofs.digest.with_rows.Given as goal

abbrev pub invariant-rows : goal.invariant-rows
invariant-rows l = digest_rows l.after (drop l.row-index l.rows) ≡ digest_rows l.before l.rows
