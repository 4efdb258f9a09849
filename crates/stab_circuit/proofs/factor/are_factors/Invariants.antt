use Rattle.stab_circuit.proofs.Names.{◌≡◌, list_all, slice_split, option_copied, is_byte, pieces_after, is_factor}
use Rattle.stab_instructions.proofs.PieceLemmas.{left}
use Rattle.stab_circuit.proofs.factor.are_factors.Given as goal

abbrev pub invariant-loop-rest : goal.invariant-loop-rest
invariant-loop-rest l = list_all is_factor (pieces_after 42 (option_copied l.rest)) ≡ list_all is_factor (slice_split (is_byte 42) l.word)

abbrev pub decreases-loop-rest : goal.decreases-loop-rest
decreases-loop-rest l = left (option_copied l.rest)
