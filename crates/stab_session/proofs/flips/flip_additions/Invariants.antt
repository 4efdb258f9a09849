use Rattle.stab_session.proofs.Names.{◌≡◌, take, flipped_additions}
use Rattle.stab_session.proofs.flips.flip_additions.Given as goal

abbrev pub invariant-loop-index : goal.invariant-loop-index
invariant-loop-index l = l.additions ≡ flipped_additions l.initial.additions (take l.index l.flips)
