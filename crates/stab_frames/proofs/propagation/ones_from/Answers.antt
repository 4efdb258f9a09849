use Rattle.stab_frames.proofs.Names.{arith}
use Rattle.stab_frames.proofs.StillPropagationLemmas.{ones-within}
use Rattle.stab_frames.proofs.propagation.ones_from.Goals as goal

pub returns-clause-few : goal.returns-clause-few
returns-clause-few c = grind (arith, c.count_ones.ensures.value, c.split_at-2.ensures.front, ones-within)
