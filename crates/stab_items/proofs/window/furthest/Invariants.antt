use Rattle.stab_items.proofs.Names.{◌≤◌, All, map, take, Axis, controlled_step, LooksWithin}
use Rattle.stab_items.proofs.window.furthest.Given as goal

abbrev pub invariant-loop-pair : goal.invariant-loop-pair
invariant-loop-pair l = record {
  more : l.least ≤ l.greatest;
  within : (axis : Axis) → All (LooksWithin l.greatest) (map (controlled_step axis) (take l.pair-index l.pairs));
}
