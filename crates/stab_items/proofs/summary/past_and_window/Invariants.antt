use Rattle.stab_items.proofs.Names.{◌≡◌, ◌≤◌, max, drop, most_qubits, most_lookback, past, controlled_qubits, furthest}
use Rattle.stab_items.proofs.summary.past_and_window.Given as goal

abbrev pub invariant-loop-pair : goal.invariant-loop-pair
invariant-loop-pair l = record {
  few : l.past ≤ most_qubits;
  near : l.furthest ≤ most_lookback;
  past_same : max l.past (past (controlled_qubits (drop l.pair-index l.pairs))) ≡ past (controlled_qubits l.pairs);
  window_same : max l.furthest (furthest (drop l.pair-index l.pairs)) ≡ furthest l.pairs;
}
