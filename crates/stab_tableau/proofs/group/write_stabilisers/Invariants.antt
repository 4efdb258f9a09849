use Rattle.stab_tableau.proofs.Names.{◌≡◌, ℕ, ◌<◌, length, row_at, stabiliser_of, IsTableau}
use Rattle.stab_tableau.proofs.group.write_stabilisers.Given as goal

abbrev pub invariant-loop-k : goal.invariant-loop-k
invariant-loop-k l = record {
  same : l.table ≡ l.fn.table;
  tableau : IsTableau (length l.fn.table) l.fn.table (record { x = l.preimage; z = l.stabiliser });
  qubits : l.out.qubits ≡ length l.fn.table;
  number : length l.out.rows ≡ length l.fn.table;
  done : (j : ℕ) → j < l.k → row_at l.out j ≡ stabiliser_of (record { qubits = length l.fn.table; rows = l.fn.table }) j;
}
