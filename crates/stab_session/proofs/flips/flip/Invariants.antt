use Rattle.stab_session.proofs.Names.{◌≡◌, take, flipped}
use Rattle.stab_session.proofs.flips.flip.Given as goal

abbrev pub invariant-loop-index : goal.invariant-loop-index
invariant-loop-index l = l.bits ≡ flipped l.initial.bits (take l.index l.flips)
