use Rattle.stab_items.proofs.Names.{length, ◌+◌, ◌*◌}
use Rattle.stab_items.proofs.circuit.gaps.+gaps.Given as goal

abbrev pub decreases-gaps_in : goal.decreases-gaps_in
decreases-gaps_in l = 2 * length l.blocks.now

abbrev pub decreases-gaps_inside : goal.decreases-gaps_inside
decreases-gaps_inside l = 2 * length l.others.now + 1
