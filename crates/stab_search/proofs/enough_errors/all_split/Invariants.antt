use Rattle.stab_search.proofs.Names.{ℕ, ◌<◌, row, Splits}
use Rattle.stab_search.proofs.enough_errors.all_split.Given as goal

abbrev pub invariant-rows : goal.invariant-rows
invariant-rows l = (q : ℕ) → q < l.r → Splits l.retained.table l.classes (row l.errors.table.rows q)
