use Rattle.std.proofs.Common.{◌≡◌}
use Rattle.bench.proofs.timing.perform_on_all.Given as goal

abbrev pub invariant-loop-qubit : goal.invariant-loop-qubit
invariant-loop-qubit l = l.tableau.qubits ≡ l.fn.tableau.qubits
