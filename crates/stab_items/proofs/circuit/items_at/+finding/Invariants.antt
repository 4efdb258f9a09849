use Rattle.stab_items.proofs.Names.{length, ◌+◌, ◌*◌}
use Rattle.stab_items.proofs.circuit.items_at.+finding.Given as goal

abbrev pub decreases-item_in : goal.decreases-item_in
decreases-item_in l = 2 * length l.blocks.now

abbrev pub decreases-item_inside : goal.decreases-item_inside
decreases-item_inside l = 2 * length l.others.now + 1
