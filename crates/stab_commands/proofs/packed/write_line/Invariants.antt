use Rattle.stab_commands.proofs.Names.{◌≡◌, ◌+◌, take, length}
use Rattle.stab_commands.proofs.LaneLineLaws.{digits}
use Rattle.stab_commands.proofs.packed.write_line.Given as goal

abbrev pub invariant-loop-k : goal.invariant-loop-k
invariant-loop-k l = record {
  size : length l.text ≡ length l.column + 1;
  made : take l.k l.text ≡ digits l.lane (take l.k l.column);
}
