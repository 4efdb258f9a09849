use Rattle.stab_ways.proofs.Names.{◌≡◌, ◌-◌, ◌<◌, ◌≤◌, length, listed, carried_parts, part_rounds, walked, walk_shown, IsWalkOn}
use Rattle.stab_ways.specs.inner.Folds.{CameFrom}
use Rattle.stab_ways.proofs.folds.fold_rounds.Given as goal

abbrev pub invariant-again : goal.invariant-again
invariant-again l = record {
  walks : IsWalkOn (length l.string.letters) l.walk;
  within : (l.done ≤ l.now) × (l.now ≤ l.count);
  later : l.checkpoint.done < l.now;
  over : walk_shown l.walk ≡ walked (length l.string.letters) l.string.letters (part_rounds (l.now - l.done) (carried_parts (listed l.body))) (walk_shown l.fn.walk);
  came : CameFrom (length l.string.letters) l.string.letters (carried_parts (listed l.body)) l.checkpoint l.now (walk_shown l.walk);
}

abbrev pub decreases-again : goal.decreases-again
decreases-again l = l.count - l.now
