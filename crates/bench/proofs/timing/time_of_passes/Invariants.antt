use Rattle.std.proofs.Common.{◌≡◌}
use Rattle.bench.proofs.timing.time_of_passes.Given as goal

abbrev pub invariant-loop : goal.invariant-loop
invariant-loop g l = l.tableau.qubits ≡ l.fn.tableau.qubits
