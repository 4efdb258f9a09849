use Rattle.stab_frames.proofs.Names.{◌≡◌, map, take}
use Rattle.stab_frames.proofs.pivots.shared.Given as goal

abbrev pub invariant-loop-string : goal.invariant-loop-string
invariant-loop-string l = map (λ p. p.value.letters) l.list.items ≡ map (λ p. p.value.letters) (take l.string-index l.strings)
