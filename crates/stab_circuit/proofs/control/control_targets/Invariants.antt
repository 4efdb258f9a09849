use Rattle.stab_circuit.proofs.Names.{◌≡◌, length, words, by_turns}
use Rattle.stab_circuit.proofs.ResultLemmas.{following}
use Rattle.stab_circuit.proofs.control.control_targets.Given as goal

abbrev pub invariant-loop-word : goal.invariant-loop-word
invariant-loop-word l = following l.found.items (by_turns (words l.rest)) ≡ by_turns (words l.words_text)

abbrev pub decreases-loop-word : goal.decreases-loop-word
decreases-loop-word l = length l.rest
