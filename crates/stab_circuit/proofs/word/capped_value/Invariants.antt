use Rattle.stab_circuit.proofs.Names.{◌≡◌, ◌≤◌, ◌<◌, value_from}
use Rattle.std.proofs.Math.ListN.{drop}
use Rattle.stab_circuit.proofs.word.capped_value.Given as goal

abbrev pub invariant-loop-digit : goal.invariant-loop-digit
invariant-loop-digit l = record {
  small : l.value < l.cap → value_from l.value (drop l.digit-index l.digits) ≡ value_from 0 l.digits;
  large : l.cap ≤ l.value → l.cap ≤ value_from 0 l.digits;
  bound : l.value < 11000000000000000000;
}
