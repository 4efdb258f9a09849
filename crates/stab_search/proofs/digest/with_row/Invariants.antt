use Rattle.stab_search.proofs.Names.{◌≡◌, ◌∷◌, drop, length}
use Rattle.stab_search.specs.SearchParts.{digest}
use Rattle.stab_search.proofs.digest.with_row.Given as goal

abbrev pub invariant-each : goal.invariant-each
invariant-each l = digest l.after (drop l.n-index l.row) ≡ digest l.before (length l.row ∷ l.row)
