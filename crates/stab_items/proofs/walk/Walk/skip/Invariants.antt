use Rattle.stab_items.proofs.Names.{◌≡◌, ◌≤◌, ◌<◌, None, drop, most_steps, walk_left, walk_weight, IsWalk}
use Rattle.stab_items.proofs.walk.Walk.skip.Given as goal

abbrev pub invariant-walk : goal.invariant-walk
invariant-walk l = record {
  walks : IsWalk l.self;
  few : l.left ≤ most_steps;
  no_kind : 0 < l.left → l.self.kind ≡ None;
  jumped : drop l.left (walk_left l.self) ≡ drop l.count (walk_left l.initial.self);
}

abbrev pub decreases-walk : goal.decreases-walk
decreases-walk l = walk_weight l.self
