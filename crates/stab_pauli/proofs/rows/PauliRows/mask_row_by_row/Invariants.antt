use Rattle.stab_pauli.proofs.Names.{◌≡◌, ℕ, ◌+◌, ◌-◌, ◌*◌, ◌/◌, ◌^◌, ◌<◌, ◌≤◌, true, get_or, I, has_x, row_at, chooses}
use Rattle.stab_pauli.proofs.rows.PauliRows.mask_row_by_row.Given as goal

abbrev pub invariant-loop-a : goal.invariant-loop-a
invariant-loop-a l = record {
  from : l.first ≤ l.a;
  in_range : l.a ≤ l.end;
  value : (k : ℕ) → l.a + k < l.end → chooses l.mask k ≡ has_x (get_or (row_at l.self (l.a + k)).letters l.qubit I);
  short : l.mask < 2 ^ (l.end - l.a);
  positions : (k j : ℕ) → l.a + k < l.end → j < 64 → has_x (get_or (row_at l.self (l.a + k)).letters (64 * (l.qubit / 64) + j) I) ≡ true → chooses l.positions j ≡ true;
}

abbrev pub decreases-loop-a : goal.decreases-loop-a
decreases-loop-a l = l.a
