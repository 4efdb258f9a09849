use Rattle.stab_run.proofs.Names.{refl, unroll}
use Rattle.stab_run.proofs.FitLemmas.{check-fits}
use Rattle.stab_run.proofs.laws.checked_steps_fit.Goals as goal

pub returns : goal.returns
returns c = record { law = λ n items checked distinct. check-fits n items (unroll items) checked refl distinct }
