use Rattle.stab_items.proofs.Names.{length, ◌+◌, ◌*◌}
use Rattle.stab_items.proofs.judge.+counting.Given as goal

abbrev pub decreases-steps_in : goal.decreases-steps_in
decreases-steps_in l = 2 * length l.blocks.now

abbrev pub decreases-steps_inside : goal.decreases-steps_inside
decreases-steps_inside l = 2 * length l.others.now + 1
