use Rattle.stab_regions.proofs.DeterministicLemmas.{deterministic-bits}
use Rattle.stab_regions.proofs.laws.deterministic_bits.Goals as goal

pub returns : goal.returns
returns c = record { law = deterministic-bits }
