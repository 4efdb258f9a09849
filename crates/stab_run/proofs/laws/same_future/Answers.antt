use Rattle.stab_run.proofs.FutureLemmas.{same-future}
use Rattle.stab_run.proofs.laws.same_future.Goals as goal

pub returns : goal.returns
returns c = record { law = same-future }
