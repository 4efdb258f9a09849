use Rattle.stab_tableau.proofs.Names.{◌≡◌, Bool, length, Signed, IsStabiliserGroup, IsBasis, HasCome}
use Rattle.stab_tableau.proofs.elimination.eliminate.Given as goal

abbrev pub invariant-loop-position : goal.invariant-loop-position
invariant-loop-position l = record {
  qubits : l.rows.qubits ≡ l.fn.rows.qubits;
  number : length l.rows.rows ≡ length l.fn.rows.rows;
  comes : (member : Signed → Bool) → IsStabiliserGroup l.fn.rows.qubits member → IsBasis member l.fn.rows → HasCome member l.position l.used l.rows;
}
