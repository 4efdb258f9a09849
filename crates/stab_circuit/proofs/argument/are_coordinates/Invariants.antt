use Rattle.stab_circuit.proofs.Names.{◌≡◌, map, list_all, option_copied, trimmed, arguments_of, pieces_after, is_coordinate}
use Rattle.stab_instructions.proofs.PieceLemmas.{left}
use Rattle.stab_circuit.proofs.argument.are_coordinates.Given as goal

abbrev pub invariant-loop-rest : goal.invariant-loop-rest
invariant-loop-rest l = list_all is_coordinate (map trimmed (pieces_after 44 (option_copied l.rest))) ≡ list_all is_coordinate (arguments_of l.arguments)

abbrev pub decreases-loop-rest : goal.decreases-loop-rest
decreases-loop-rest l = left (option_copied l.rest)
