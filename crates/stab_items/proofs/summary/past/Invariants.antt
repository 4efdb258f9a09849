use Rattle.stab_items.proofs.Names.{◌≡◌, ◌≤◌, max, drop, most_qubits, past}
use Rattle.stab_items.proofs.summary.past.Given as goal

abbrev pub invariant-loop-qubit : goal.invariant-loop-qubit
invariant-loop-qubit l = record {
  small : l.past ≤ most_qubits;
  same : max l.past (past (drop l.qubit-index l.qubits)) ≡ past l.qubits;
}
