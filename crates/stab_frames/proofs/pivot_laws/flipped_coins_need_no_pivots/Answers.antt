use Rattle.stab_frames.proofs.PivotLemmas.{conjugated-enough}
use Rattle.stab_frames.proofs.pivot_laws.flipped_coins_need_no_pivots.Goals as goal

pub returns : goal.returns
returns c = record { law = conjugated-enough }
