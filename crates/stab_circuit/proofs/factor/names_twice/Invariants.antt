use Rattle.stab_circuit.proofs.Names.{◌≡◌, ◌≤◌, length, drop, false, names_twice}
use Rattle.stab_circuit.proofs.factor.names_twice.Given as goal

abbrev pub invariant-loop-start : goal.invariant-loop-start
invariant-loop-start l = record {
  within : l.start ≤ length l.factors;
  can_follow : names_twice (drop l.start l.factors) ≡ false;
}

abbrev pub decreases-loop-start : goal.decreases-loop-start
decreases-loop-start l = l.start
