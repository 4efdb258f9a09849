use Rattle.stab_ways.proofs.StringLemmas.{DifferBy}
use Rattle.stab_ways.proofs.strings.differ.Given as goal

abbrev pub invariant-loop-qubit : goal.invariant-loop-qubit
invariant-loop-qubit l = DifferBy l.old l.new l.qubit l.found
