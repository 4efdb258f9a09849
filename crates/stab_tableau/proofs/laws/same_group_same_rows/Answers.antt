use Rattle.stab_tableau.proofs.ReducedLemmas.{same-reduced}
use Rattle.stab_tableau.proofs.RowsDetermineLemmas.{rows-determine}
use Rattle.stab_tableau.proofs.laws.same_group_same_rows.Goals as goal

pub returns : goal.returns
returns c = record {
  law = λ n s t gs gt a b ra rb. ((λ same. same-reduced n s t same gt a b ra rb), rows-determine n s t gs gt a b ra rb);
}
