use Rattle.stab_tableau.proofs.Names.{◌≡◌, ◌≢◌, ℕ, ◌<◌, ◌≤◌, length, row_at, cleared_with}
use Rattle.stab_tableau.proofs.elimination.clear_others.Given as goal

abbrev pub invariant-loop-row : goal.invariant-loop-row
invariant-loop-row l = record {
  qubits : l.rows.qubits ≡ l.fn.rows.qubits;
  count : length l.rows.rows ≡ length l.fn.rows.rows;
  preserved : row_at l.rows l.leading ≡ row_at l.fn.rows l.leading;
  done : (c : ℕ) → c < l.row → c ≢ l.leading → row_at l.rows c ≡ cleared_with l.fn.rows.qubits l.position (row_at l.fn.rows l.leading) (row_at l.fn.rows c);
  rest : (c : ℕ) → l.row ≤ c → row_at l.rows c ≡ row_at l.fn.rows c;
}
