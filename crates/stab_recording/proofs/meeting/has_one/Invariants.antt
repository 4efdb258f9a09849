use Rattle.stab_recording.proofs.Names.{◌≡◌, take, ones}
use Rattle.stab_recording.proofs.meeting.has_one.Given as goal

abbrev pub invariant-loop-bit : goal.invariant-loop-bit
invariant-loop-bit l = ones (take l.bit-index l.bits) ≡ 0
