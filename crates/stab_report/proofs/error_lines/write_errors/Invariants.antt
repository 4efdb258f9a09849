use Rattle.stab_report.proofs.Names.{flat_map, WroteUpTo, circuit_items, numbered_line}
use Rattle.std.proofs.Math.ListN.{drop}
use Rattle.stab_report.proofs.error_lines.write_errors.Given as goal

abbrev pub invariant-numbers : goal.invariant-numbers
invariant-numbers g l =
    let line = numbered_line (circuit_items l.circuit) l.errors in
    WroteUpTo (g.O.Output.seen l.initial.out) (g.O.Output.seen l.out) (flat_map line l.numbers) (flat_map line (drop l.number-index l.numbers))
