use Rattle.stab_sampler.proofs.Names.{AreCoins}
use Rattle.stab_sampler.proofs.SeedLemmas.{first_shots}
use Rattle.stab_sampler.proofs.coins.coins_of_half.Given as goal

abbrev pub invariant-loop-lane : goal.invariant-loop-lane
invariant-loop-lane l = AreCoins (first_shots l.shots l.lane) l.group 32 l.half
