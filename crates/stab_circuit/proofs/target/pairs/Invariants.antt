use Rattle.stab_circuit.proofs.Names.{◌≡◌, length, pairs_of}
use Rattle.stab_circuit.proofs.ResultLemmas.{following}
use Rattle.stab_circuit.proofs.target.pairs.Given as goal

abbrev pub invariant-loop-rest : goal.invariant-loop-rest
invariant-loop-rest l = following l.found.items (pairs_of l.rest) ≡ pairs_of l.qubits

abbrev pub decreases-loop-rest : goal.decreases-loop-rest
decreases-loop-rest l = length l.rest
