use Rattle.stab_report.proofs.Names.{flat_map, WroteUpTo, circuit_items}
use Rattle.std.proofs.Math.ListN.{drop}
use Rattle.stab_report.specs.DoubtLines.{doubt_line}
use Rattle.stab_report.proofs.doubt_lines.write_doubts.Given as goal

abbrev pub invariant-marks : goal.invariant-marks
invariant-marks g l =
    let line = doubt_line (circuit_items l.circuit) in
    WroteUpTo (g.O.Output.seen l.initial.out) (g.O.Output.seen l.out) (flat_map line l.marks) (flat_map line (drop l.mark-index l.marks))
