use Rattle.stab_items.proofs.Names.{◌+◌, ◌*◌, take, listed, depth, nested_in, Took, margin_depth, printed_in}
use Rattle.stab_items.proofs.print.+printing.Given as goal

abbrev pub invariant-write_items-loop-item : goal.invariant-write_items-loop-item
invariant-write_items-loop-item g l = Took (g.O.Output.seen l.initial.out) (g.O.Output.seen l.out) (printed_in (margin_depth l.margin) (listed (take l.item-index l.items)))

abbrev pub decreases-write_item : goal.decreases-write_item
decreases-write_item g l = 2 * nested_in l.item.now

abbrev pub decreases-write_items : goal.decreases-write_items
decreases-write_items g l = 2 * depth (listed l.items.now) + 1
