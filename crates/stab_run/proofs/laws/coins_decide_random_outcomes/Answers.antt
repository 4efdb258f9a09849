use Rattle.stab_run.proofs.StateLemmas.{random-outcome, fixed-outcome}
use Rattle.stab_run.proofs.laws.coins_decide_random_outcomes.Goals as goal

pub returns : goal.returns
returns c = record { law = λ trace p. (random-outcome trace p, fixed-outcome trace p) }
