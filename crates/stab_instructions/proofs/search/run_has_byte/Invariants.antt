use Rattle.stab_instructions.proofs.Names.{◌≡◌, take, list_any, is_byte}
use Rattle.stab_instructions.proofs.search.run_has_byte.Given as goal

abbrev pub invariant-loop-other : goal.invariant-loop-other
invariant-loop-other l = l.found ≡ list_any (is_byte l.byte) (take l.other-index l.run)
