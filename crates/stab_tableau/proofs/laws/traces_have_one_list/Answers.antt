use Rattle.stab_tableau.proofs.Names.{member}
use Rattle.stab_tableau.proofs.TraceLemmas.{group-member}
use Rattle.stab_tableau.proofs.ReducedLemmas.{AreReduced-one}
use Rattle.stab_tableau.proofs.laws.traces_have_one_list.Goals as goal

pub returns : goal.returns
returns c = record { law = λ n trace fits sound. AreReduced-one n (member trace) (group-member n trace fits sound) }
