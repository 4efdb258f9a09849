use Rattle.stab_report.proofs.Names.{◌≡◌, drop, true, flat_map, WroteUpTo, shot_bytes, set_all}
use Rattle.stab_report.proofs.single_error_bits.write_shots.Given as goal

abbrev pub invariant-loop-single_error : goal.invariant-loop-single_error
invariant-loop-single_error g l = record {
  same : l.bits ≡ l.initial.bits;
  wrote : WroteUpTo (g.O.Output.seen l.initial.out) (g.O.Output.seen l.out) (flat_map (λ row. shot_bytes l.format l.kinds (set_all row true l.initial.bits)) l.table.rows)
      (flat_map (λ row. shot_bytes l.format l.kinds (set_all row true l.initial.bits)) (drop l.single_error l.table.rows));
}
