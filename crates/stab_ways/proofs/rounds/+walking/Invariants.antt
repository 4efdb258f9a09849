use Rattle.stab_ways.proofs.Names.{◌≡◌, ◌+◌, ◌-◌, ◌*◌, ◌<◌, ◌≤◌, ◌⊎◌, take, length, listed, depth, nested_in, unroll, carried_parts, part_rounds, walked, walk_shown, IsWalkOn}
use Rattle.stab_ways.specs.inner.Folds.{CameFrom}
use Rattle.stab_ways.proofs.rounds.+walking.Given as goal

abbrev pub decreases-over_item : goal.decreases-over_item
decreases-over_item l = 3 * nested_in l.item.now

abbrev pub decreases-over_items : goal.decreases-over_items
decreases-over_items l = 3 * depth (listed l.items.now) + 1

abbrev pub decreases-over_rounds : goal.decreases-over_rounds
decreases-over_rounds l = 3 * depth (listed l.body.now) + 2

abbrev pub invariant-over_items-items : goal.invariant-over_items-items
invariant-over_items-items l = record {
  walks : IsWalkOn (length l.string.letters) l.walk;
  over : walk_shown l.walk ≡ walked (length l.string.letters) l.string.letters (carried_parts (listed (take l.item-index l.items))) (walk_shown l.initial.walk);
}

abbrev pub invariant-over_rounds-rounds : goal.invariant-over_rounds-rounds
invariant-over_rounds-rounds l = record {
  walks : IsWalkOn (length l.string.letters) l.walk;
  within : l.done ≤ l.count;
  over : walk_shown l.walk ≡ walked (length l.string.letters) l.string.letters (part_rounds l.done (carried_parts (listed l.body))) (walk_shown l.fn.walk);
  came : CameFrom (length l.string.letters) l.string.letters (carried_parts (listed l.body)) l.checkpoint l.done (walk_shown l.walk);
  some : (l.done ≡ 0) ⊎ (0 < length (unroll (listed l.body)));
}

abbrev pub decreases-over_rounds-rounds : goal.decreases-over_rounds-rounds
decreases-over_rounds-rounds l = l.count - l.done
