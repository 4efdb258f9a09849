use Rattle.stab_error_model.proofs.Names.{◌+◌, ◌*◌, drop, HasFrom, IsUnderWay, factor_errors, factor_single_errors}
use Rattle.stab_error_model.proofs.everywhere.add_factors.Given as goal

abbrev pub invariant-factors : goal.invariant-factors
invariant-factors l =
    IsUnderWay (HasFrom l.row (factor_single_errors l.step l.factors)) (factor_errors l.letters l.step l.factors) (factor_errors l.letters l.step (drop l.k l.factors))
    (l.row + 4 * l.k) (factor_single_errors l.step (drop l.k l.factors)) l.initial.errors.items l.errors.items
