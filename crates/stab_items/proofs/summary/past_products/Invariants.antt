use Rattle.stab_items.proofs.Names.{◌≡◌, ◌≤◌, max, drop, most_qubits, past, product_qubits}
use Rattle.stab_items.proofs.summary.past_products.Given as goal

abbrev pub invariant-loop-product : goal.invariant-loop-product
invariant-loop-product l = record {
  small : l.past ≤ most_qubits;
  same : max l.past (past (product_qubits (drop l.product-index l.products))) ≡ past (product_qubits l.products);
}
