use Rattle.stab_error_model.proofs.Names.{take, AreSplitByRows}
use Rattle.stab_error_model.proofs.parts.split_errors.Given as goal

abbrev pub invariant-errors : goal.invariant-errors
invariant-errors l = AreSplitByRows l.single_errors.rows l.detectors (take l.error-index l.whole) l.errors.items
