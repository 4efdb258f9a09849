use Rattle.stab_tableau.proofs.Names.{◌≡◌, ℕ, ◌<◌, ◌≤◌, false, row_at, bit_at}
use Rattle.stab_tableau.proofs.elimination.find_leading.Given as goal

abbrev pub invariant-loop-row : goal.invariant-loop-row
invariant-loop-row l = (a : ℕ) → l.from ≤ a → a < l.row → bit_at l.rows.qubits (row_at l.rows a).letters l.position ≡ false
