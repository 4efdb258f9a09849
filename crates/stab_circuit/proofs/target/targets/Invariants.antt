use Rattle.stab_circuit.proofs.Names.{◌≡◌, length, each, words}
use Rattle.stab_circuit.proofs.ResultLemmas.{following}
use Rattle.stab_circuit.proofs.target.targets.Given as goal

abbrev pub invariant-loop-found : goal.invariant-loop-found
invariant-loop-found g l = following l.found.items (each g.T.Target.meaning (words l.rest)) ≡ each g.T.Target.meaning (words l.words_text)

abbrev pub decreases-loop-found : goal.decreases-loop-found
decreases-loop-found g l = length l.rest
