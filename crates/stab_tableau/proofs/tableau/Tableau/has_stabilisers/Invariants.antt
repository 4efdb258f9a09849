use Rattle.stab_tableau.proofs.Names.{◌≡◌, ℕ, ◌<◌, true, length, IsTableau, stabilises, stabiliser_of}
use Rattle.stab_tableau.proofs.tableau.Tableau.has_stabilisers.Given as goal

abbrev pub invariant-loop-k : goal.invariant-loop-k
invariant-loop-k l = record {
  same : l.self ≡ l.fn.self;
  same_table : l.table ≡ l.fn.table;
  tableau : IsTableau (length l.fn.table) l.fn.table (record { x = l.preimage; z = l.stabiliser });
  has : (j : ℕ) → j < l.k → stabilises l.fn.self (stabiliser_of (record { qubits = length l.fn.table; rows = l.fn.table }) j) ≡ true;
}
