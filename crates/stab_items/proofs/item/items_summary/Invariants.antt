use Rattle.stab_items.proofs.Names.{◌≡◌, take, listed, AreGood, summary_of, IsSummary}
use Rattle.stab_items.proofs.item.items_summary.Given as goal

abbrev pub invariant-loop-item : goal.invariant-loop-item
invariant-loop-item l = record {
  small : IsSummary l.all;
  good : AreGood (listed (take l.item-index l.items));
  same : l.all ≡ summary_of (listed (take l.item-index l.items));
}
