use Rattle.stab_items.proofs.Names.{◌≡◌, ◌≤◌, ahead, walk_weight, IsWalk, SameKind}
use Rattle.stab_items.proofs.walk.Walk.reach.Given as goal

abbrev pub invariant-levels : goal.invariant-levels
invariant-levels l = record {
  walks : IsWalk l.self;
  same : SameKind l.initial.self l.self;
  ahead : ahead l.self ≡ ahead l.initial.self;
  lighter : walk_weight l.self ≤ walk_weight l.initial.self;
}

abbrev pub decreases-levels : goal.decreases-levels
decreases-levels l = walk_weight l.self
