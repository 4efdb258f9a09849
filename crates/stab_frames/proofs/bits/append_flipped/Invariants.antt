use Rattle.stab_frames.proofs.Names.{◌≡◌, ◌++◌, take, flipped}
use Rattle.stab_frames.proofs.bits.append_flipped.Given as goal

abbrev pub invariant-loop-position : goal.invariant-loop-position
invariant-loop-position l = l.to.items ≡ l.initial.to.items ++ flipped (take l.position l.bits) (take l.position l.flips)
