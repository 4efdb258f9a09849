use Rattle.stab_commands.proofs.Names.{qubits_of, circuit_items}
use Rattle.stab_report.proofs.SingleErrorBitLaws.{table_rows}
use Rattle.stab_commands.proofs.faults.send_lines.Goals as goal

pub write_lines-requires-clause-rows : goal.write_lines-requires-clause-rows
write_lines-requires-clause-rows g c =
    let items = circuit_items c.args.circuit.now in
    table_rows (qubits_of items) c.args.everywhere items c.args.table.now.deterministic c.args.table.now.rows c.requires.table
