use Rattle.stab_frames.proofs.Names.{◌≡◌, take, list_any, touches_pair}
use Rattle.stab_frames.proofs.instruction.touches_some.Given as goal

abbrev pub invariant-loop-pair : goal.invariant-loop-pair
invariant-loop-pair l = l.found ≡ list_any (touches_pair l.letters) (take l.pair-index l.pairs)
