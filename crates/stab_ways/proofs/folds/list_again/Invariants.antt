use Rattle.stab_ways.proofs.Names.{◌≡◌, ◌-◌, ◌≤◌, ◌++◌, take, drop, map, turn_shown}
use Rattle.stab_ways.specs.inner.Folds.{later}
use Rattle.stab_ways.proofs.folds.list_again.Given as goal

abbrev pub invariant-loop-position : goal.invariant-loop-position
invariant-loop-position l = record {
  from : l.from ≤ l.position;
  listed : map turn_shown l.turns.items ≡ map turn_shown l.fn.turns.items ++ map (later l.steps) (take (l.position - l.from) (drop l.from (map turn_shown l.fn.turns.items)));
}
