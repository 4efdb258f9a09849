use Rattle.stab_ways.proofs.Names.{◌≡◌, take, list_any, has_letter_at}
use Rattle.stab_ways.proofs.resets.has_letters.Given as goal

abbrev pub invariant-loop-target : goal.invariant-loop-target
invariant-loop-target l = l.found ≡ list_any (has_letter_at l.letters) (take l.target-index l.targets)
