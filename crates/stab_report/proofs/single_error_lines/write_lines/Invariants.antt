use Rattle.stab_report.proofs.Names.{◌≡◌, ◌+◌, length, drop, WroteUpTo, unroll, circuit_items, single_errors_from, single_errors_of, table_lines, path_at, IsItemStretch}
use Rattle.stab_report.proofs.single_error_lines.write_lines.Given as goal

abbrev pub invariant-steps : goal.invariant-steps
invariant-steps g l = record {
  count : l.number + length l.cursor.left ≡ length (unroll (circuit_items l.circuit));
  rows : l.row + length (single_errors_from l.everywhere l.number l.cursor.left) ≡ length l.table.rows;
  stretch : IsItemStretch (circuit_items l.circuit) l.number l.item;
  wrote : WroteUpTo (g.O.Output.seen l.initial.out) (g.O.Output.seen l.out)
      (table_lines l.kinds (path_at (circuit_items l.circuit)) (single_errors_of l.everywhere (unroll (circuit_items l.circuit))) l.table.rows)
      (table_lines l.kinds (path_at (circuit_items l.circuit)) (single_errors_from l.everywhere l.number l.cursor.left) (drop l.row l.table.rows));
}

abbrev pub decreases-steps : goal.decreases-steps
decreases-steps g l = length l.cursor.left
