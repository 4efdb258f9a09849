use Rattle.stab_circuit.proofs.Names.{◌≡◌, length, words, controlled_of}
use Rattle.stab_circuit.proofs.ResultLemmas.{following}
use Rattle.stab_circuit.proofs.control.controlled_pairs.Given as goal

abbrev pub invariant-loop-pair : goal.invariant-loop-pair
invariant-loop-pair l = following l.found.items (controlled_of (words l.rest)) ≡ controlled_of (words l.words_text)

abbrev pub decreases-loop-pair : goal.decreases-loop-pair
decreases-loop-pair l = length l.rest
