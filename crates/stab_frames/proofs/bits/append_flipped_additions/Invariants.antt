use Rattle.stab_frames.proofs.Names.{◌≡◌, ◌++◌, take, flipped_additions}
use Rattle.stab_frames.proofs.bits.append_flipped_additions.Given as goal

abbrev pub invariant-loop-position : goal.invariant-loop-position
invariant-loop-position l = l.to.items ≡ l.initial.to.items ++ flipped_additions (take l.position l.additions) (take l.position l.flips)
