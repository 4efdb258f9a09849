use Rattle.stab_tableau.proofs.RandomLemmas.{is_random-anticommuting, anticommuting-member_of_random}
use Rattle.stab_tableau.proofs.laws.random_where_anticommuting.Goals as goal

pub returns : goal.returns
returns c = record { law = λ n t f s p l. (anticommuting-member_of_random n t f s p l, is_random-anticommuting n t f s p l) }
