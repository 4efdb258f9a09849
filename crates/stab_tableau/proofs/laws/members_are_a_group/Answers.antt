use Rattle.stab_tableau.proofs.TraceLemmas.{group-member}
use Rattle.stab_tableau.proofs.laws.members_are_a_group.Goals as goal

pub returns : goal.returns
returns c = record { law = group-member }
