use Rattle.stab_frames.proofs.Names.{◌≡◌, take, list_any, touches_target}
use Rattle.stab_frames.proofs.instruction.anticommutes_some.Given as goal

abbrev pub invariant-loop-target : goal.invariant-loop-target
invariant-loop-target l = l.found ≡ list_any (touches_target l.letters l.letter) (take l.target-index l.targets)
