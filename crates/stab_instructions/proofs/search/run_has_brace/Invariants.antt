use Rattle.stab_instructions.proofs.Names.{◌≡◌, take, list_any, is_brace}
use Rattle.stab_instructions.proofs.search.run_has_brace.Given as goal

abbrev pub invariant-loop-byte : goal.invariant-loop-byte
invariant-loop-byte l = l.found ≡ list_any is_brace (take l.byte-index l.run)
