use Rattle.stab_items.proofs.Names.{◌≡◌, length, take, listed, unroll}
use Rattle.stab_items.proofs.same.count_same_items.Given as goal

abbrev pub invariant-loop-position : goal.invariant-loop-position
invariant-loop-position l = record {
  same : unroll (listed (take l.position l.items)) ≡ unroll (listed (take l.position l.others));
  steps : l.steps ≡ length (unroll (listed (take l.position l.items)));
}
