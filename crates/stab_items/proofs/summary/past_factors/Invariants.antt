use Rattle.stab_items.proofs.Names.{◌≡◌, ◌≤◌, max, drop, most_qubits, past, factor_qubits}
use Rattle.stab_items.proofs.summary.past_factors.Given as goal

abbrev pub invariant-loop-factor : goal.invariant-loop-factor
invariant-loop-factor l = record {
  small : l.past ≤ most_qubits;
  same : max l.past (past (factor_qubits (drop l.factor-index l.factors))) ≡ past (factor_qubits l.factors);
}
