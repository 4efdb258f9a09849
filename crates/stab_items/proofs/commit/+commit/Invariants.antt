use Rattle.stab_items.proofs.Names.{length, ◌+◌, ◌*◌}
use Rattle.stab_items.proofs.commit.+commit.Given as goal

abbrev pub decreases-commit : goal.decreases-commit
decreases-commit l = 2 * length l.blocks.now

abbrev pub decreases-commit_within : goal.decreases-commit_within
decreases-commit_within l = 2 * length l.blocks.now + 1
