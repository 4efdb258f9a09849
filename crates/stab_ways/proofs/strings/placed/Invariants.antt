use Rattle.stab_ways.proofs.StringLemmas.{AreFound}
use Rattle.stab_ways.proofs.strings.placed.Given as goal

abbrev pub invariant-loop-qubit : goal.invariant-loop-qubit
invariant-loop-qubit l = AreFound l.letters l.qubit l.found.items
