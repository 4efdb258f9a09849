use Rattle.stab_instructions.proofs.Names.{◌≡◌, ◌≤◌, ◌-◌, false, length, take, list_any, is_byte}
use Rattle.stab_instructions.proofs.search.others_in_front.Given as goal

abbrev pub invariant-loop-length : goal.invariant-loop-length
invariant-loop-length l = record {
  within : l.length ≤ length l.bytes;
  others : list_any (is_byte l.byte) (take l.length l.bytes) ≡ false;
}

abbrev pub decreases-loop-length : goal.decreases-loop-length
decreases-loop-length l = length l.bytes - l.length
