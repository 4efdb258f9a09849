use Rattle.stab_run.proofs.FutureBackLemmas.{same-future-back}
use Rattle.stab_run.proofs.laws.same_future_back.Goals as goal

pub returns : goal.returns
returns c = record { law = same-future-back }
