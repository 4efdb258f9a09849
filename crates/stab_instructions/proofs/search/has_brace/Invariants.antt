use Rattle.stab_instructions.proofs.Names.{◌≡◌, length, list_any, is_brace}
use Rattle.stab_instructions.proofs.search.has_brace.Given as goal

abbrev pub invariant-loop-rest : goal.invariant-loop-rest
invariant-loop-rest l = list_any is_brace l.rest ≡ list_any is_brace l.bytes

abbrev pub decreases-loop-rest : goal.decreases-loop-rest
decreases-loop-rest l = length l.rest
