use Rattle.stab_regions.proofs.Names.{◌≡◌, ◌≤◌, ◌-◌, [], length, replicate}
use Rattle.stab_regions.proofs.walk.empty_rows.Given as goal

abbrev pub invariant-rows : goal.invariant-rows
invariant-rows l = record {
  value : l.rows.items ≡ replicate (length l.rows.items) [];
  few : length l.rows.items ≤ l.count;
}

abbrev pub decreases-rows : goal.decreases-rows
decreases-rows l = l.count - length l.rows.items
