use Rattle.std.proofs.Common.{◌≡◌, ◌<◌, ◌-◌}
use Rattle.bench.proofs.state.scramble.Given as goal

abbrev pub decreases-loop-stride : goal.decreases-loop-stride
decreases-loop-stride l = l.tableau.qubits - l.stride

abbrev pub invariant-loop-stride : goal.invariant-loop-stride
invariant-loop-stride l = record {
  qubits : l.tableau.qubits ≡ l.initial.tableau.qubits;
  above_zero : 0 < l.stride;
}
