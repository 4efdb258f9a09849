use Rattle.stab_items.proofs.Names.{arith}
use Rattle.stab_items.proofs.ItemLemmas.{depth_at}
use Rattle.stab_items.proofs.copy.+copying.Goals as goal

pub copied_items-copied_item-requires : goal.copied_items-copied_item-requires
copied_items-copied_item-requires t c =
    (omega (arith, c.decreases, depth_at c.args.items.now c.loop-item.item-index c.item-item.result c.loop-item-test.true c.item-item.is), tt)
