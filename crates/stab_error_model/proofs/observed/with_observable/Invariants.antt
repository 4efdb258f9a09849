use Rattle.stab_error_model.proofs.Names.{◌≡◌, map, take, retained_row}
use Rattle.stab_error_model.proofs.observed.with_observable.Given as goal

abbrev pub invariant-errors : goal.invariant-errors
invariant-errors l = record {
  rows : l.retained.rows ≡ map (retained_row l.table.detectors l.observable) (take l.number l.table.rows);
  detectors : l.retained.detectors ≡ l.table.detectors;
}
