use Rattle.stab_error_model.proofs.Names.{◌≡◌, ◌+◌, ◌*◌, ◌++◌, take, length, listed, depth, nested_in, unroll}
use Rattle.stab_error_model.specs.Doubts.{doubts_from}
use Rattle.stab_error_model.proofs.doubts.+doubting.Given as goal

abbrev pub decreases-doubt_item : goal.decreases-doubt_item
decreases-doubt_item l = 2 * nested_in l.item.now

abbrev pub decreases-doubt_items : goal.decreases-doubt_items
decreases-doubt_items l = 2 * depth (listed l.items.now) + 1

abbrev pub invariant-doubt_items-items : goal.invariant-doubt_items-items
invariant-doubt_items-items l = record {
  site : l.site ≡ l.step + length (unroll (listed (take l.item-index l.items)));
  doubts : l.doubts.items ≡ l.initial.doubts.items ++ doubts_from l.step (listed (take l.item-index l.items));
}
