use Rattle.stab_frames.proofs.TwoCircuitLemmas.{group-origin}
use Rattle.stab_frames.proofs.step_laws.points_have_groups.Goals as goal

pub returns : goal.returns
returns c = record { law = group-origin }
