use Rattle.stab_regions.proofs.RandomLemmas.{random-bits}
use Rattle.stab_regions.proofs.laws.random_bits.Goals as goal

pub returns : goal.returns
returns c = record { law = random-bits }
