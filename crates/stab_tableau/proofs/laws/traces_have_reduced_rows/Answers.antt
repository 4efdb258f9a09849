use Rattle.stab_tableau.proofs.Names.{member}
use Rattle.stab_tableau.proofs.TraceLemmas.{group-member}
use Rattle.stab_tableau.proofs.RowsExistLemmas.{AreReduced-some}
use Rattle.stab_tableau.proofs.laws.traces_have_reduced_rows.Goals as goal

pub returns : goal.returns
returns c = record { law = λ n trace fits sound. AreReduced-some n (member trace) (group-member n trace fits sound) }
