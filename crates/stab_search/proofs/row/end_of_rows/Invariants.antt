use Rattle.stab_search.proofs.Names.{◌≡◌, ℕ, ◌<◌, ◌≤◌, false, odd, row}
use Rattle.stab_search.proofs.row.end_of_rows.Given as goal

abbrev pub invariant-rows : goal.invariant-rows
invariant-rows l = (q i : ℕ) → q < l.r → l.end ≤ i → odd i (row l.rows q) ≡ false
