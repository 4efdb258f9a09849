use Rattle.stab_items.proofs.Names.{length, ◌+◌, ◌*◌}
use Rattle.stab_items.proofs.judge.+judging.Given as goal

abbrev pub decreases-judge : goal.decreases-judge
decreases-judge l = 2 * length l.blocks.now

abbrev pub decreases-edit_result_in : goal.decreases-edit_result_in
decreases-edit_result_in l = 2 * length l.blocks.now + 1
