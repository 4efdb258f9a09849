use Rattle.stab_search.proofs.Names.{ℕ, List, AreRowsOf, HaveClasses}
use Rattle.stab_search.proofs.enough_errors.of_one_class.Given as goal

abbrev pub invariant-rows : goal.invariant-rows
invariant-rows l = record {
  rows : (rows : List (List ℕ)) → AreRowsOf rows l.retained.errors.table.rows l.retained.numbers.items → AreRowsOf rows l.chosen.rows.items l.chosen.numbers.items;
  classes : HaveClasses (record { detectors = l.retained.errors.table.detectors; rows = l.chosen.rows.items }) l.classes;
}
