use Rattle.stab_circuit.proofs.Names.{◌≡◌, drop, each, paired}
use Rattle.stab_circuit.proofs.ResultLemmas.{following}
use Rattle.stab_circuit.proofs.control.with_pairs.Given as goal

abbrev pub invariant-loop-target : goal.invariant-loop-target
invariant-loop-target l = following l.found.items (each paired (drop l.target-index l.targets)) ≡ following l.initial.found.items (each paired l.targets)
