use Rattle.stab_report.proofs.Names.{◌≡◌, ◌≤◌, ◌+◌, ◌*◌, ◌-◌, length, drop, flat_map, WroteUpTo, step_shown, single_errors_on, sites_at, table_lines}
use Rattle.stab_report.proofs.single_error_lines.write_step.Given as goal

abbrev pub invariant-positions : goal.invariant-positions
invariant-positions g l = record {
  next : l.next ≡ l.row + 2 * l.position;
  within : l.position ≤ length (sites_at l.everywhere (step_shown l.step));
  wrote : WroteUpTo (g.O.Output.seen l.initial.out) (g.O.Output.seen l.out)
      (table_lines l.kinds (λ _. l.path) (flat_map (single_errors_on l.number) (sites_at l.everywhere (step_shown l.step))) (drop l.row l.table.rows))
      (table_lines l.kinds (λ _. l.path) (flat_map (single_errors_on l.number) (drop l.position (sites_at l.everywhere (step_shown l.step)))) (drop l.next l.table.rows));
}

abbrev pub decreases-positions : goal.decreases-positions
decreases-positions g l = length (sites_at l.everywhere (step_shown l.step)) - l.position
