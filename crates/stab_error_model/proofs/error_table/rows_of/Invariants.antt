use Rattle.stab_error_model.proofs.Names.{◌≡◌, take, AreErrorRows}
use Rattle.stab_error_model.proofs.error_table.rows_of.Given as goal

abbrev pub invariant-errors : goal.invariant-errors
invariant-errors l = record {
  rows : AreErrorRows l.single_errors.rows (take l.error-index l.errors) l.table.rows;
  detectors : l.table.detectors ≡ l.detectors;
}
