use Rattle.stab_items.proofs.Names.{◌≡◌, ◌≤◌, max, drop, most_qubits, past, target_qubits}
use Rattle.stab_items.proofs.summary.past_targets.Given as goal

abbrev pub invariant-loop-target : goal.invariant-loop-target
invariant-loop-target l = record {
  small : l.past ≤ most_qubits;
  same : max l.past (past (target_qubits (drop l.target-index l.targets))) ≡ past (target_qubits l.targets);
}
