use Rattle.stab_ways.proofs.RunLemmas.{strings-flip, fixed-coins}
use Rattle.stab_ways.proofs.laws.strings_flip_runs.Goals as goal

pub returns : goal.returns
returns c = record { law = strings-flip; fixed = fixed-coins }
