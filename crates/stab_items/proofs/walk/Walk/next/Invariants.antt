use Rattle.stab_items.proofs.Names.{◌≡◌, walk_left, walk_weight, IsWalk}
use Rattle.stab_items.proofs.walk.Walk.next.Given as goal

abbrev pub invariant-walk : goal.invariant-walk
invariant-walk l = record {
  walks : IsWalk l.self;
  left : walk_left l.self ≡ walk_left l.initial.self;
}

abbrev pub decreases-walk : goal.decreases-walk
decreases-walk l = walk_weight l.self
