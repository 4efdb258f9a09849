use Rattle.stab_tableau.proofs.ReducedLemmas.{AreReduced-one}
use Rattle.stab_tableau.proofs.laws.reduced_rows_are_one.Goals as goal

pub returns : goal.returns
returns c = record { law = AreReduced-one }
