use Rattle.stab_circuit.proofs.Names.{◌≡◌, ◌≤◌, ◌<◌, ◌-◌, true, length, take, list_all, is_digit, value}
use Rattle.stab_circuit.proofs.word.digits_in_front.Given as goal

abbrev pub invariant-loop-length : goal.invariant-loop-length
invariant-loop-length l = record {
  within : l.length ≤ length l.bytes;
  few : l.length ≤ 18;
  digits : list_all is_digit (take l.length l.bytes) ≡ true;
  same : l.number ≡ value (take l.length l.bytes);
  small : l.number < 1000000000000000000;
}

abbrev pub decreases-loop-length : goal.decreases-loop-length
decreases-loop-length l = length l.bytes - l.length
