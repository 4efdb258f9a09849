use Rattle.stab_report.proofs.Names.{◌-◌, length, flat_map, range_with_len, WroteUpTo, circuit_items, numbered_line, error_lines}
use Rattle.stab_report.proofs.error_lines.write_all_errors.Given as goal

abbrev pub invariant-errors : goal.invariant-errors
invariant-errors g l =
    let items = circuit_items l.circuit in
    let rest = range_with_len l.number (length l.errors.errors - l.number) in
    WroteUpTo (g.O.Output.seen l.initial.out) (g.O.Output.seen l.out) (error_lines items l.errors) (flat_map (numbered_line items l.errors) rest)
