use Rattle.stab_circuit.proofs.Names.{◌≡◌, slice_split, option_copied, each, is_byte, pieces_after, factor_of}
use Rattle.stab_circuit.proofs.ResultLemmas.{following}
use Rattle.stab_instructions.proofs.PieceLemmas.{left}
use Rattle.stab_circuit.proofs.factor.factors.Given as goal

abbrev pub invariant-loop-rest : goal.invariant-loop-rest
invariant-loop-rest l = following l.found.items (each factor_of (pieces_after 42 (option_copied l.rest))) ≡ each factor_of (slice_split (is_byte 42) l.word)

abbrev pub decreases-loop-rest : goal.decreases-loop-rest
decreases-loop-rest l = left (option_copied l.rest)
