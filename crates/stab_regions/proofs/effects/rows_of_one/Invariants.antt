use Rattle.stab_regions.proofs.Names.{◌≡◌, ℕ, ◌+◌, ◌-◌, ◌*◌, ◌<◌, ◌≤◌, [], ◌∷◌, length, row}
use Rattle.stab_regions.proofs.effects.rows_of_one.Given as goal

abbrev pub invariant-rows : goal.invariant-rows
invariant-rows l = record {
  few : length l.rows.items ≤ l.count;
  value : (k : ℕ) → k < length l.rows.items → row l.rows.items k ≡ (l.first + 2 * k) ∷ [];
}

abbrev pub decreases-rows : goal.decreases-rows
decreases-rows l = l.count - length l.rows.items
