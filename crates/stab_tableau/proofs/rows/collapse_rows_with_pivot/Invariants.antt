use Rattle.stab_tableau.proofs.Names.{◌≡◌, ℕ, ◌*◌, ◌<◌, ◌≤◌, false, length, get_or, I, Z, rows_at, CollapsedRow, column}
use Rattle.stab_tableau.proofs.rows.collapse_rows_with_pivot.Given as goal

abbrev pub invariant-loop-group : goal.invariant-loop-group
invariant-loop-group l = record {
  size : length l.table ≡ length l.fn.table;
  done : (q : ℕ) → q < 32 * l.group → q < length l.fn.table → CollapsedRow l.position l.multiplier (rows_at l.fn.table q) (rows_at l.table q);
  rest : (q : ℕ) → 32 * l.group ≤ q → rows_at l.table q ≡ rows_at l.fn.table q;
  pivot_size : length l.pivot.letters ≡ length l.fn.table;
  sign : l.pivot.negative ≡ false;
  written : (q : ℕ) → q < 32 * l.group → q < length l.fn.table → get_or l.pivot.letters q I ≡ get_or (column Z l.position l.fn.table) q I;
  unwritten : (q : ℕ) → 32 * l.group ≤ q → get_or l.pivot.letters q I ≡ I;
}
