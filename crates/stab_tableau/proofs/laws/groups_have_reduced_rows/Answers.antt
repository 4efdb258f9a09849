use Rattle.stab_tableau.proofs.RowsExistLemmas.{AreReduced-some}
use Rattle.stab_tableau.proofs.laws.groups_have_reduced_rows.Goals as goal

pub returns : goal.returns
returns c = record { law = AreReduced-some }
