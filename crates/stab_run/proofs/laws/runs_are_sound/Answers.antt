use Rattle.stab_run.proofs.Names.{joined_distinct}
use Rattle.stab_run.proofs.SoundLemmas.{sound-run}
use Rattle.stab_run.proofs.laws.runs_are_sound.Goals as goal

pub returns : goal.returns
returns c = record { law = λ n coins lines items s checked. sound-run n coins items checked (joined_distinct lines items s.each s.joined) }
