use Rattle.stab_frames.proofs.PivotLemmas.{randomness-has_pivots}
use Rattle.stab_frames.proofs.pivot_laws.randomness_determines_pivots.Goals as goal

pub returns : goal.returns
returns c = record { law = randomness-has_pivots }
