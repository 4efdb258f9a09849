use Rattle.stab_frames.proofs.PivotLemmas.{right-enough}
use Rattle.stab_frames.proofs.pivot_laws.right_pivots_are_enough.Goals as goal

pub returns : goal.returns
returns c = record { law = right-enough }
