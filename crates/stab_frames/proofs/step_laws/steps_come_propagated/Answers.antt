use Rattle.stab_frames.proofs.RepeatedStepLemmas.{come-conjugated}
use Rattle.stab_frames.proofs.step_laws.steps_come_propagated.Goals as goal

pub returns : goal.returns
returns c = record { law = come-conjugated }
