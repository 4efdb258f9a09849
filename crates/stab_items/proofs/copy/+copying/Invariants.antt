use Rattle.stab_items.proofs.Names.{◌≡◌, ◌+◌, ◌*◌, take, listed, depth, nested_in}
use Rattle.stab_items.proofs.copy.+copying.Given as goal

abbrev pub invariant-copied_items-loop-item : goal.invariant-copied_items-loop-item
invariant-copied_items-loop-item l = l.all.items ≡ take l.item-index l.items

abbrev pub decreases-copied_item : goal.decreases-copied_item
decreases-copied_item l = 2 * nested_in l.item.now

abbrev pub decreases-copied_items : goal.decreases-copied_items
decreases-copied_items l = 2 * depth (listed l.items.now) + 1
