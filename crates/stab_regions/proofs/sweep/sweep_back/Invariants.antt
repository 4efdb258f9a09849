use Rattle.stab_regions.proofs.Names.{◌≡◌, ◌≤◌, length, drop, unroll, circuit_items, numbers_before, IsSwept}
use Rattle.stab_regions.proofs.sweep.sweep_back.Given as goal

abbrev pub invariant-pieces : goal.invariant-pieces
invariant-pieces l = record {
  within : l.end ≤ length (unroll (circuit_items l.circuit));
  numbered : l.sweep.walk.numbered ≡ l.fn.numbered;
  swept : IsSwept l.asked l.sweep (numbers_before l.qubits (circuit_items l.circuit)) (drop l.end (unroll (circuit_items l.circuit)));
}

abbrev pub decreases-pieces : goal.decreases-pieces
decreases-pieces l = l.end
