use Rattle.stab_run.proofs.FixedLemmas.{fixed-future}
use Rattle.stab_run.proofs.laws.fixed_outcomes_need_no_coins.Goals as goal

pub returns : goal.returns
returns c = record { law = fixed-future }
