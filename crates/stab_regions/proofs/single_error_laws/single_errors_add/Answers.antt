use Rattle.stab_regions.proofs.ManySingleErrorLemmas.{single_errors-add}
use Rattle.stab_regions.proofs.single_error_laws.single_errors_add.Goals as goal

pub returns : goal.returns
returns c = record { law = single_errors-add c.runs_are_points_with_outputs.ensures.law }
