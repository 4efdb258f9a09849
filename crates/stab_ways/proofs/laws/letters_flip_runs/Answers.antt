use Rattle.stab_ways.proofs.RunLemmas.{letters-flip}
use Rattle.stab_ways.proofs.laws.letters_flip_runs.Goals as goal

pub returns : goal.returns
returns c = record { law = letters-flip }
