use Rattle.stab_items.proofs.Names.{◌≡◌, ◌≤◌, max, drop, most_qubits, pair_qubits, past}
use Rattle.stab_items.proofs.summary.past_pairs.Given as goal

abbrev pub invariant-loop-pair : goal.invariant-loop-pair
invariant-loop-pair l = record {
  small : l.past ≤ most_qubits;
  same : max l.past (past (pair_qubits (drop l.pair-index l.pairs))) ≡ past (pair_qubits l.pairs);
}
