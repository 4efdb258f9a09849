use Rattle.stab_report.proofs.Names.{◌≡◌, length, drop, set_all}
use Rattle.stab_report.proofs.single_error_bits.set_all.Given as goal

abbrev pub invariant-loop-position : goal.invariant-loop-position
invariant-loop-position l = record {
  same : length l.bits ≡ length l.initial.bits;
  left : set_all (drop l.position-index l.positions) l.value l.bits ≡ set_all l.positions l.value l.initial.bits;
}
